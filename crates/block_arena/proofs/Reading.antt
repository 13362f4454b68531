-- A run's bytes, read block by block.
use Rattle.std.proofs.Common.{◌≡◌, ℕ, zero, suc, ◌+◌, ◌-◌, ◌*◌, ◌<◌, ◌≤◌, List, [], ◌∷◌, ◌++◌, get_or, length, take, drop, min, refl, ap, sym, ◌∙◌, subst}
use Rattle.std.proofs.Common.{arith, ◌/◌, ◌%◌, length-drop, length-take, drop-drop, take-add, take_all}
use Rattle.std.specs.Prelude.{flat_map}
use Rattle.std.specs.List.{All, AllByRecursion}
use Rattle.mail_world.specs.declared.limits.TheConstants.{BLOCK_SIZE}
use Rattle.block_arena.specs.declared.slot.Run.{Run}
use Rattle.block_arena.specs.Fields.{chain, node, blocks_in, bytes_in, IsReadable}
use Rattle.block_arena.proofs.Seen.{full_length}
use Rattle.block_arena.proofs.Chains.{chain_length}

pub node_next : (i : ℕ) (next : List ℕ) (first : ℕ) → node (suc i) next first ≡ get_or next (node i next first) 0
node_next zero next first = refl
node_next (suc i) next first = node_next i next (get_or next first 0)

pub node_low : (k m i : ℕ) (next : List ℕ) (first : ℕ) → AllByRecursion (λ b. b < k) (chain m next first) → i < m → node i next first < k
node_low k zero i next first low h = absurd (omega (arith, h))
node_low k (suc m) zero next first low h = low.0
node_low k (suc m) (suc i) next first low h = node_low k m i next (get_or next first 0) low.1 (omega (arith, h))

-- the bytes of that many blocks from one on, each whole
abbrev pub whole : List (List ℕ) → List ℕ → ℕ → ℕ → List ℕ
whole store next m block = flat_map (λ b. get_or store b []) (chain m next block)

drop_prefix : (k : ℕ) (xs ys : List ℕ) → length xs ≡ k → drop k (xs ++ ys) ≡ ys
drop_prefix zero [] ys e = refl
drop_prefix zero (x ∷ xs) ys e = absurd (omega (arith, e))
drop_prefix (suc k) [] ys e = absurd (omega (arith, e))
drop_prefix (suc k) (x ∷ xs) ys e = drop_prefix k xs ys (omega (arith, e))

pub node_low_as : (k m i : ℕ) (next : List ℕ) (first block : ℕ) → block ≡ node i next first → AllByRecursion (λ b. b < k) (chain m next first) → i < m
    → block < k
node_low_as k m i next first block e low h = subst (λ b. b < k) (sym e) (node_low k m i next first low h)

pub node_next_as : (i : ℕ) (next : List ℕ) (first block d : ℕ) → block ≡ node i next first → d ≡ 0 → node (i + 1) next first ≡ get_or next block d
node_next_as i next first block d e z =
    ap (λ n. node n next first) (let h : i + 1 ≡ suc i = omega arith in h) ∙ node_next i next first ∙ ap (λ b. get_or next b 0) (sym e)
    ∙ ap (λ k. get_or next block k) (sym z)

take_prefix : (n : ℕ) (xs ys : List ℕ) → n ≤ length xs → take n (xs ++ ys) ≡ take n xs
take_prefix zero xs ys h = refl
take_prefix (suc n) [] ys h = absurd (omega (arith, h))
take_prefix (suc n) (x ∷ xs) ys h = ap (λ t. x ∷ t) (take_prefix n xs ys (omega (arith, h)))

drop_in : (n : ℕ) (xs ys : List ℕ) → n ≤ length xs → drop n (xs ++ ys) ≡ drop n xs ++ ys
drop_in zero xs ys h = refl
drop_in (suc n) [] ys h = absurd (omega (arith, h))
drop_in (suc n) (x ∷ xs) ys h = drop_in n xs ys (omega (arith, h))

-- after that many whole blocks the rest of the chain stands
walk : (store : List (List ℕ)) (next : List ℕ) (q m n first : ℕ) → n ≡ q + m → All (λ (bytes : List ℕ). length bytes ≡ BLOCK_SIZE) store
    → length store ≡ length next → AllByRecursion (λ b. b < length next) (chain n next first)
    → (drop (BLOCK_SIZE * q) (whole store next n first) ≡ whole store next m (node q next first))
    × AllByRecursion (λ b. b < length next) (chain m next (node q next first))
walk store next zero m n first e sizes count low =
    let same : n ≡ m = omega (arith, e) in (
      ap (λ k. drop k (whole store next n first)) (let z : BLOCK_SIZE * zero ≡ 0 = omega arith in z)
          ∙ ap (λ k. whole store next k first) same,
      subst (λ k. AllByRecursion (λ b. b < length next) (chain k next first)) same low,
    )
walk store next (suc q) m zero first e sizes count low = absurd (omega (arith, e))
walk store next (suc q) m (suc n) first e sizes count low =
    let here : length (get_or store first []) ≡ BLOCK_SIZE = sizes first [] (omega (arith, low.0, count)) in
    let rest : (drop (BLOCK_SIZE * q) (whole store next n (get_or next first 0)) ≡ whole store next m (node q next (get_or next first 0)))
    × AllByRecursion (λ b. b < length next) (chain m next (node q next (get_or next first 0))) =
    walk store next q m n (get_or next first 0) (omega (arith, e)) sizes count low.1 in (
      ap (λ k. drop k (get_or store first [] ++ whole store next n (get_or next first 0)))
          (let z : BLOCK_SIZE * suc q ≡ BLOCK_SIZE + BLOCK_SIZE * q = omega arith in z)
          ∙ sym (drop-drop (BLOCK_SIZE * q) BLOCK_SIZE (get_or store first [] ++ whole store next n (get_or next first 0)))
          ∙ ap (drop (BLOCK_SIZE * q)) (drop_prefix BLOCK_SIZE (get_or store first []) (whole store next n (get_or next first 0)) here)
          ∙ rest.0,
      rest.1,
    )

-- what is to be copied: that many of all bytes from a place on, to the beginning of a slice
pub record Copying : Type 0 where
  pub all : List ℕ
  pub total : ℕ
  pub at : ℕ
  pub start : List ℕ

-- how far that is: the slice as it is now, how many bytes are done, and the place and the block of the next one
pub record Progress : Type 0 where
  pub out : List ℕ
  pub done : ℕ
  pub from : ℕ
  pub block : ℕ

pub record Reads (store : List (List ℕ)) (next : List ℕ) (c : Copying) (p : Progress) : Type 0 where
  pub m : ℕ
  pub low : AllByRecursion (λ b. b < length next) (chain m next p.block)
  pub left : p.done < c.total → drop (c.at + p.done) c.all ≡ drop p.from (whole store next m p.block)
  pub enough : c.total ≤ p.done + (BLOCK_SIZE * m - p.from)
  pub within : p.done ≤ c.total
  pub from_in : p.from < BLOCK_SIZE
  pub long : c.total ≤ length (drop c.at c.all)
  pub room : c.total ≤ length c.start
  pub is : p.out ≡ take p.done (drop c.at c.all) ++ drop p.done c.start

pub reads_in : (store : List (List ℕ)) (next : List ℕ) (run : Run) (total at : ℕ) (out : List ℕ) (block : ℕ) → IsReadable store next run → at < run.length
    → total ≤ length out → total ≤ run.length - at
    → block ≡ node (at / BLOCK_SIZE) next run.first
    → Reads store next (record { all = whole store next run.blocks run.first; total = total; at = at; start = out })
    (record { out = out; done = 0; from = at % BLOCK_SIZE; block = block })
reads_in store next run total at out block r inside room short e =
    let q : at / BLOCK_SIZE ≤ run.blocks = omega (arith, inside, r.enough) in
    let w : (drop (BLOCK_SIZE * (at / BLOCK_SIZE)) (whole store next run.blocks run.first)
    ≡ whole store next (run.blocks - at / BLOCK_SIZE) (node (at / BLOCK_SIZE) next run.first))
    × AllByRecursion (λ b. b < length next) (chain (run.blocks - at / BLOCK_SIZE) next (node (at / BLOCK_SIZE) next run.first)) =
    walk store next (at / BLOCK_SIZE) (run.blocks - at / BLOCK_SIZE) run.blocks run.first (omega (arith, q)) r.sizes r.count r.low in
    let size : length (whole store next run.blocks run.first) ≡ BLOCK_SIZE * run.blocks =
    full_length store (length next) (blocks_in next run) r.count r.sizes r.low ∙ ap (λ k. BLOCK_SIZE * k) (chain_length run.blocks next run.first) in
    record {
      m = run.blocks - at / BLOCK_SIZE;
      low = subst (λ b. AllByRecursion (λ x. x < length next) (chain (run.blocks - at / BLOCK_SIZE) next b)) (sym e) w.1;
      left = λ some.
          ap (λ k. drop k (whole store next run.blocks run.first)) (let z : at + 0 ≡ BLOCK_SIZE * (at / BLOCK_SIZE) + at % BLOCK_SIZE = omega arith in z)
          ∙ sym (drop-drop (at % BLOCK_SIZE) (BLOCK_SIZE * (at / BLOCK_SIZE)) (whole store next run.blocks run.first))
          ∙ ap (drop (at % BLOCK_SIZE)) (w.0 ∙ ap (λ b. whole store next (run.blocks - at / BLOCK_SIZE) b) (sym e));
      enough = omega (arith, short, inside, r.enough, q);
      within = omega arith;
      from_in = omega arith;
      long = omega (arith, length-drop at (whole store next run.blocks run.first), size, short, r.enough, inside);
      room = room;
      is = refl;
    }

joined : (out P S start piece whole_piece : List ℕ) (done n : ℕ) → out ≡ P ++ S → length P ≡ done → S ≡ drop done start
    → take done out ++ piece ++ drop (done + n) out ≡ P ++ piece ++ drop (done + n) start
joined out P S start piece w done n e size s =
    let prefix : take done out ≡ P =
    ap (take done) e ∙ (let k : done ≤ length P = omega (arith, size) in take_prefix done P S k) ∙ take_all done P (omega (arith, size)) in
    let back : drop (done + n) out ≡ drop (done + n) start =
    ap (drop (done + n)) e ∙ sym (drop-drop n done (P ++ S)) ∙ ap (drop n) (drop_prefix done P S size ∙ s) ∙ drop-drop n done start in
    ap (λ p. p ++ piece ++ drop (done + n) out) prefix ∙ ap (λ b. P ++ piece ++ b) back

step_by : (store : List (List ℕ)) (next : List ℕ) (c : Copying) (p : Progress) (n : ℕ) (row out' : List ℕ) (m : ℕ)
    → All (λ (bytes : List ℕ). length bytes ≡ BLOCK_SIZE) store → length store ≡ length next
    → AllByRecursion (λ b. b < length next) (chain m next p.block) → drop (c.at + p.done) c.all ≡ drop p.from (whole store next m p.block)
    → c.total ≤ p.done + (BLOCK_SIZE * m - p.from)
    → p.done < c.total → p.from < BLOCK_SIZE → c.total ≤ length (drop c.at c.all) → c.total ≤ length c.start
    → p.out ≡ take p.done (drop c.at c.all) ++ drop p.done c.start
    → n ≡ min (c.total - p.done) (BLOCK_SIZE - p.from) → row ≡ get_or store p.block []
    → out' ≡ take p.done p.out ++ take n (drop p.from row) ++ drop (p.done + n) p.out
    → Reads store next c (record { out = out'; done = p.done + n; from = 0; block = get_or next p.block 0 })
step_by store next c p n row out' zero sizes count low left enough some from_in long room is en er eo = absurd (omega (arith, enough, some))
step_by store next c p n row out' (suc m) sizes count low left enough some from_in long room is en er eo =
    let here : length (get_or store p.block []) ≡ BLOCK_SIZE = sizes p.block [] (omega (arith, low.0, count)) in
    let size : length row ≡ BLOCK_SIZE = ap length er ∙ here in
    let rest : List ℕ = whole store next m (get_or next p.block 0) in
    let same : drop (c.at + p.done) c.all ≡ drop p.from (row ++ whole store next m (get_or next p.block 0)) =
    left ∙ ap (λ r. drop p.from (r ++ whole store next m (get_or next p.block 0))) (sym er) in
    let fits : p.from + n ≤ BLOCK_SIZE = omega (arith, en, from_in) in
    let piece : take n (drop p.done (drop c.at c.all)) ≡ take n (drop p.from row) =
    ap (take n) (drop-drop p.done c.at c.all ∙ same ∙ drop_in p.from row (whole store next m (get_or next p.block 0)) (omega (arith, size, from_in)))
    ∙ take_prefix n (drop p.from row) (whole store next m (get_or next p.block 0)) (omega (arith, length-drop p.from row, size, fits)) in
    let prefix : length (take p.done (drop c.at c.all)) ≡ p.done = omega (arith, length-take p.done (drop c.at c.all), long, some) in
    record {
      m = m;
      low = low.1;
      left = λ more.
          let full : p.from + n ≡ BLOCK_SIZE = omega (arith, en, more, some, from_in) in
          ap (λ k. drop k c.all) (let z : c.at + (p.done + n) ≡ (c.at + p.done) + n = omega arith in z)
          ∙ sym (drop-drop n (c.at + p.done) c.all)
          ∙ ap (drop n) same
          ∙ drop-drop n p.from (row ++ whole store next m (get_or next p.block 0))
          ∙ drop_prefix (p.from + n) row (whole store next m (get_or next p.block 0)) (size ∙ sym full);
      enough = omega (arith, en, enough, from_in, some);
      within = omega (arith, en, some);
      from_in = omega arith;
      long = long;
      room = room;
      is = eo
          ∙ joined p.out (take p.done (drop c.at c.all)) (drop p.done c.start) c.start (take n (drop p.from row)) [] p.done n is prefix refl
          ∙ ap (λ xs. take p.done (drop c.at c.all) ++ xs ++ drop (p.done + n) c.start) (sym piece)
          ∙ ap (λ xs. xs ++ drop (p.done + n) c.start) (sym (take-add p.done n (drop c.at c.all)));
    }

pub reads_step : (store : List (List ℕ)) (next : List ℕ) (c : Copying) (p : Progress) (n : ℕ) (row out' : List ℕ)
    → All (λ (bytes : List ℕ). length bytes ≡ BLOCK_SIZE) store → length store ≡ length next → Reads store next c p → p.done < c.total
    → n ≡ min (c.total - p.done) (BLOCK_SIZE - p.from) → row ≡ get_or store p.block []
    → out' ≡ take p.done p.out ++ take n (drop p.from row) ++ drop (p.done + n) p.out
    → Reads store next c (record { out = out'; done = p.done + n; from = 0; block = get_or next p.block 0 })
reads_step store next c p n row out' sizes count r some en er eo =
    step_by store next c p n row out' r.m sizes count r.low (r.left some) r.enough some r.from_in r.long r.room r.is en er eo

take_less : (k n : ℕ) (xs : List ℕ) → k ≤ n → take k (take n xs) ≡ take k xs
take_less zero n xs h = refl
take_less (suc k) zero xs h = absurd (omega (arith, h))
take_less (suc k) (suc n) [] h = refl
take_less (suc k) (suc n) (x ∷ xs) h = ap (λ t. x ∷ t) (take_less k n xs (omega (arith, h)))

take_short : (k n at : ℕ) (xs : List ℕ) → k ≤ n - at → take k (drop at (take n xs)) ≡ take k (drop at xs)
take_short k n zero xs h = take_less k n xs (omega (arith, h))
take_short k zero (suc at) xs h = let z : k ≡ 0 =
    omega (arith, h) in ap (λ j. take j (drop (suc at) (take zero xs))) z ∙ sym (ap (λ j. take j (drop (suc at) xs)) z)
take_short k (suc n) (suc at) [] h = refl
take_short k (suc n) (suc at) (x ∷ xs) h = take_short k n at xs (omega (arith, h))

pub reads_all : (store : List (List ℕ)) (next : List ℕ) (run : Run) (total at : ℕ) (start : List ℕ) (p : Progress)
    → Reads store next (record { all = whole store next run.blocks run.first; total = total; at = at; start = start }) p → total ≤ p.done
    → total ≤ run.length - at
    → p.out ≡ take total (drop at (bytes_in store next run)) ++ drop total start
reads_all store next run total at start p r over short =
    let same : p.done ≡ total = omega (arith, r.within, over) in
    r.is ∙ ap (λ k. take k (drop at (whole store next run.blocks run.first)) ++ drop k start) same
    ∙ ap (λ p. p ++ drop total start) (sym (take_short total run.length at (whole store next run.blocks run.first) short))

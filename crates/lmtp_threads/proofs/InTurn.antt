-- Mailboxes that come back from their threads, one after the other.
use Rattle.std.proofs.Common.{◌≡◌, ◌==◌, ℕ, zero, suc, ◌+◌, ◌<◌, ◌%◌, false, List, [], ◌∷◌, ◌++◌, length, map, Some, inl, inr}
use Rattle.std.proofs.Common.{refl, sym, ap, ◌∙◌, subst, arith}
use Rattle.std.specs.Prelude.{slice_get, slice_set}
use Rattle.std.specs.List.{AllZip, AllByRecursion}
use Rattle.std.proofs.lemmas.Bool.{cond-true, cond-false, eq-eqb, ne_eqb}
use Rattle.std.proofs.lemmas.List.{length-map, map-append}
use Rattle.mail_world.proofs.Accepted.{get_set}
use Rattle.box_worker.specs.Shares.{KeptState, numbers_of}
use Rattle.box_worker.proofs.Shares.{length_kept}
use Rattle.lmtp_threads.specs.Works.{SpoolsView}
use Rattle.lmtp_threads.specs.Reports.{tally_of, TellsOfSpool}
use Rattle.lmtp_threads.specs.ByThread.{numbers_from, numbers_at}
use Rattle.lmtp_threads.specs.BroughtBack.{BoxesState, no_boxes, AreDealt, IsAmong, TakesBox, HoldBoxes}
use Rattle.lmtp_threads.proofs.MovedLists.{each_more}
use Rattle.lmtp_threads.proofs.Pairs.{AllZip-snoc, AllZip-length}
use Rattle.lmtp_threads.proofs.ChannelRows.{each_at}
use Rattle.lmtp_threads.proofs.ByThread.{length_numbers}

-- one more number
pub numbers_more : (b n : ℕ) → numbers_from b n ++ (b + n) ∷ [] ≡ numbers_from b (suc n)
numbers_more b zero = let e : b + 0 ≡ b = omega arith in ap (λ c. c ∷ []) e
numbers_more b (suc n) =
    let e : b + suc n ≡ b + 1 + n = omega arith in
    ap (λ c. b ∷ (numbers_from (b + 1) n ++ c ∷ [])) e ∙ ap (λ l. b ∷ l) (numbers_more (b + 1) n)

-- so many are left from number b on, of these threads' mailboxes
pub record AreLeft (b left : ℕ) (first boxes : List (List KeptState)) : Type 0 where
  pub count : length boxes ≡ length first
  pub dealt : AreDealt b left boxes
  pub among : (t : ℕ) (own : List KeptState) → slice_get boxes t ≡ Some own → AllByRecursion (IsAmong first) own

-- all of them
pub all_left : (count : ℕ) (first : List (List KeptState)) → AreDealt 0 count first → AreLeft 0 count first first
all_left count first dealt = record {
  count = refl;
  dealt = dealt;
  among = λ t own e. each_at (IsAmong first) own (λ k kept f. record { thread = t; own = own; own_is = e; place = k; is = f });
}

-- the next one
pub record IsNextLeft (b left : ℕ) (first boxes : List (List KeptState)) (kept : KeptState) (rest : List KeptState) : Type 0 where
  pub number : kept.number ≡ b
  pub is : IsAmong first kept
  pub left_more : AreLeft (b + 1) left first (slice_set boxes (b % length boxes) rest)

module _ (b left : ℕ) (first boxes : List (List KeptState)) (are : AreLeft b (suc left) first boxes) where
  abbrev threads : ℕ
  threads = length boxes

  abbrev later : ℕ → List ℕ
  later t = numbers_at threads t (b + 1) left

  here : numbers_at threads (b % threads) b (suc left) ≡ b ∷ later (b % threads)
  here = cond-true (b % threads == b % threads) (b ∷ later (b % threads)) (later (b % threads)) (eq-eqb (b % threads) (b % threads) refl)

  pub some_left : (own : List KeptState) → slice_get boxes (b % threads) ≡ Some own → own ≡ [] → ⊥
  some_left own e none =
      let bad : ◌≡◌ {A = List ℕ} [] (b ∷ later (b % threads)) = ap numbers_of (sym none) ∙ (are.dealt (b % threads) own e ∙ here) in cc

  pub next_left : (own rest : List KeptState) (kept : KeptState) → slice_get boxes (b % threads) ≡ Some own → own ≡ kept ∷ rest
      → IsNextLeft b left first boxes kept rest
  next_left own rest kept e is =
      let numbers : ◌≡◌ {A = List ℕ} (kept.number ∷ numbers_of rest) (b ∷ later (b % threads)) = ap numbers_of (sym is) ∙ (are.dealt (b % threads) own e ∙ here) in
      let number : kept.number ≡ b = cc in
      let after : numbers_of rest ≡ later (b % threads) = cc in
      let same : length (slice_set boxes (b % threads) rest) ≡ threads = length_kept boxes (b % threads) rest in
      let all : AllByRecursion (IsAmong first) (kept ∷ rest) = subst (AllByRecursion (IsAmong first)) is (are.among (b % threads) own e) in record {
        number = number;
        is = all.0;
        left_more = record {
          count = same ∙ are.count;
          dealt = λ t left_own f. elim (get_set boxes (b % threads) t rest left_own f) [
            | inl mine ↦
                let those : numbers_of left_own ≡ later t = ap numbers_of (sym mine.1) ∙ (after ∙ ap later (sym mine.0)) in
                those ∙ ap (λ n. numbers_at n t (b + 1) left) (sym same)
            | inr other ↦
                let away : (b % threads == t) ≡ false = ne_eqb (b % threads) t (λ here_too. other.0 (sym here_too)) in
                let those : numbers_of left_own ≡ later t =
                are.dealt t left_own other.1 ∙ cond-false (b % threads == t) (b ∷ later t) (later t) away in
                those ∙ ap (λ n. numbers_at n t (b + 1) left) (sym same)
          ];
          among = λ t left_own f. elim (get_set boxes (b % threads) t rest left_own f) [
            | inl mine ↦ subst (AllByRecursion (IsAmong first)) mine.1 all.1
            | inr other ↦ are.among t left_own other.1
          ];
        };
      }

module _ {S : Type 0} (view : SpoolsView S) where
  -- those below b came back
  pub record HoldSome (count b : ℕ) (first boxes : List (List KeptState)) (columns : BoxesState S) : Type 0 where
    pub came : List KeptState
    pub left : ℕ
    pub until : b + left ≡ count
    pub numbers : numbers_of came ≡ numbers_from 0 b
    pub among : AllByRecursion (IsAmong first) came
    pub lent : AllZip (TellsOfSpool view) came columns.lent
    pub tallies : columns.tallies ≡ map tally_of came
    pub room : columns.room ≡ count
    pub rest : AreLeft b left first boxes

  pub none_yet : (count : ℕ) (first : List (List KeptState)) (columns : BoxesState S) → AreDealt 0 count first → columns ≡ no_boxes count
      → HoldSome count 0 first first columns
  none_yet count first columns dealt none = subst (HoldSome count 0 first first) (sym none) (record {
    came = [];
    left = count;
    until = omega arith;
    numbers = refl;
    among = tt;
    lent = tt;
    tallies = refl;
    room = refl;
    rest = all_left count first dealt;
  })

  module _ {count b : ℕ} {first boxes : List (List KeptState)} {columns : BoxesState S} (hold : HoldSome count b first boxes columns) where
    came_count : length hold.came ≡ b
    came_count = sym (length-map hold.came (λ (k : KeptState). k.number)) ∙ (ap length hold.numbers ∙ length_numbers 0 b)

    pub fits : b < count → length columns.lent < columns.room
    fits below = omega (arith, came_count, AllZip-length (TellsOfSpool view) hold.came columns.lent hold.lent, hold.room, below)

    -- there is a next one
    pub left_below : b < count → (left : ℕ) × (b + 1 + left ≡ count) × AreLeft b (suc left) first boxes
    left_below below = elim hold.left as (λ n. b + n ≡ count → AreLeft b n first boxes → (left : ℕ) × (b + 1 + left ≡ count) × AreLeft b (suc left) first boxes) [
      | zero ↦ λ e are. absurd (omega arith)
      | suc n ↦ λ e are. (n, omega arith, are)
    ] hold.until hold.rest

    pub none_missing : b < count → (k : ℕ) → k ≡ b % length boxes → (own : List KeptState) → slice_get boxes k ≡ Some own → own ≡ [] → ⊥
    none_missing below k k_is own e none =
        let more = left_below below in
        some_left b more.0 first boxes more.2 own (ap (slice_get boxes) (sym k_is) ∙ e) none

    pub hold_more : b < count → (k : ℕ) → k ≡ b % length boxes → (own rest : List KeptState) (kept : KeptState) (after : BoxesState S)
        → slice_get boxes k ≡ Some own → own ≡ kept ∷ rest → TakesBox view kept columns after → HoldSome count (b + 1) first (slice_set boxes k rest) after
    hold_more below k k_is own rest kept after e is takes =
        let more = left_below below in
        let next = next_left b more.0 first boxes more.2 own rest kept (ap (slice_get boxes) (sym k_is) ∙ e) is in
        let n : 0 + b ≡ b = omega arith in
        let m : suc b ≡ b + 1 = omega arith in
        subst (HoldSome count (b + 1) first (slice_set boxes k rest)) (sym takes.is) (record {
          came = hold.came ++ kept ∷ [];
          left = more.0;
          until = more.1;
          numbers = map-append (λ (x : KeptState). x.number) hold.came (kept ∷ []) ∙ (ap (λ l. l ++ kept.number ∷ []) hold.numbers
              ∙ (ap (λ c. numbers_from 0 b ++ c ∷ []) (next.number ∙ sym n) ∙ (numbers_more 0 b ∙ ap (numbers_from 0) m)));
          among = each_more (IsAmong first) hold.came kept hold.among next.is;
          lent = AllZip-snoc (TellsOfSpool view) hold.came columns.lent kept takes.lent hold.lent takes.tells;
          tallies = ap (λ l. l ++ tally_of kept ∷ []) hold.tallies ∙ sym (map-append tally_of hold.came (kept ∷ []));
          room = hold.room;
          rest = subst (λ j. AreLeft (b + 1) more.0 first (slice_set boxes j rest)) (sym k_is) next.left_more;
        })

    pub hold_all : b ≡ count → HoldBoxes view count first columns
    hold_all all = record {
      came = hold.came;
      numbers = hold.numbers ∙ ap (numbers_from 0) all;
      among = hold.among;
      lent = hold.lent;
      tallies = hold.tallies;
    }

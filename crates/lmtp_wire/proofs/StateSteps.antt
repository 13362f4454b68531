-- What one byte makes of the message after data that was taken, by where the data stands.
use Rattle.std.proofs.Common.{◌≡◌, ℕ, ◌+◌, ◌-◌, List, [], ◌∷◌, ◌++◌, length, take, drop, Bool, true, false, cond, not, ◌&&◌, ◌==◌, Some, None, refl, ap, sym}
use Rattle.std.proofs.Common.{◌∙◌, arith, length-append, append_assoc, append-nil, subst}
use Rattle.std.specs.Prelude.{unwrap_or}
use Rattle.std.proofs.Math.Seq.{take-append_seam, drop-append_seam}
use Rattle.std.proofs.lemmas.Bool.{eqb-true, and_parts}
use Rattle.std.specs.Prelude.{nat_eq}
use Rattle.std.specs.Cmp.Lexicographic.{pointwise}
use Rattle.mail_world.specs.Text.{cr, lf, crlf, place_of, ends_in}
use Rattle.mail_world.specs.Data.{dot, end_of_data, data_end, without_dots, unstuffed, message, shown}
use Rattle.lmtp_wire.specs.declared.dot.DataState.{DataState}
use Rattle.lmtp_wire.specs.declared.dot.DataState.TheVariants.{InText, AfterCr, LineStart, AfterDot, AfterDotCr}
use Rattle.lmtp_wire.specs.declared.dot.Effect.{Effect}
use Rattle.lmtp_wire.specs.declared.dot.Effect.TheVariants.{Nothing, Byte, HeldCr, End}
use Rattle.lmtp_wire.specs.DataState.{came, in_doubt, held_back, is_cr, is_start, is_dot, state_next, state_after, is_undotted, effect_of, without_dots_at}
use Rattle.lmtp_wire.specs.DataState.{moved, IsInState, IsDataEnd}
use Rattle.lmtp_wire.proofs.EndSteps.{end_in, text_other, cr_again, cr_other, start_cr, start_other, dot_other, dot_cr_again, dot_cr_other, moved_more}
use Rattle.lmtp_wire.proofs.EndSteps.{moved_none, moved_some}
use Rattle.lmtp_wire.proofs.LastBytes.{eqb_comm, ends_more, fades, fades_cr}

-- with one more byte the data stands there, and more of the message is sure
pub record Adds (state : DataState) (taken : List ℕ) (byte : ℕ) (new : List ℕ) : Type 0 where
  pub stands : IsInState state (taken ++ byte ∷ [])
  pub shows : shown (taken ++ byte ∷ []) ≡ shown taken ++ new

-- what a byte does after the data that was taken
abbrev pub Brings : List ℕ → ℕ → Effect → Type 0
Brings taken byte (Nothing state) = Adds state taken byte []
Brings taken byte (Byte state) = Adds state taken byte (byte ∷ [])
Brings taken byte (HeldCr state) = Adds state taken byte (cr ∷ byte ∷ [])
Brings taken byte End = IsDataEnd (taken ++ byte ∷ []) (shown taken)

-- data that stands somewhere hasn't ended
came_none : (state : DataState) → end_in (came state ++ []) ≡ None
came_none InText = refl
came_none AfterCr = refl
came_none LineStart = refl
came_none AfterDot = refl
came_none AfterDotCr = refl

pub stands_none : (state : DataState) (taken : List ℕ) → IsInState state taken → data_end taken ≡ None
unfolding data_end
stands_none state taken s =
    ap (λ l. end_in (crlf ++ l)) (sym (append-nil taken)) ∙ s.finds [] ∙ ap (λ o. moved s.before o) (came_none state) ∙ moved_none s.before

-- before the first byte
pub stands_first : IsInState LineStart []
unfolding shown
stands_first = record {
  before = 0;
  count = refl;
  finds = λ rest. refl;
  cr_last = refl;
  crlf_last = refl;
  dot_last = refl;
  after = λ rest. refl;
  lead = [];
  whole = refl;
  content = refl;
  sure = refl;
}

pub shown_first : shown [] ≡ []
unfolding shown
shown_first = refl

-- a step of a state: how the end's place moves, what the last bytes are, and what the byte is without dots
record PlaceStep (p q : DataState) (b : ℕ) (new : List ℕ) : Type 0 where
  gone : ℕ
  count : gone + length (came q) ≡ length (came p) + 1
  finds : (t : List ℕ) → end_in (came p ++ b ∷ t) ≡ moved gone (end_in (came q ++ t))
  cr_last : (cr == b) ≡ is_cr q
  crlf_last : is_cr p && (lf == b) ≡ is_start q
  dot_last : is_start p && (dot == b) ≡ is_dot q
  after : (t : List ℕ) → without_dots_at p (b ∷ t) ≡ new ++ without_dots_at q t

-- one more byte
snoc : (taken : List ℕ) (b : ℕ) (rest : List ℕ) → (taken ++ b ∷ []) ++ rest ≡ taken ++ b ∷ rest
snoc taken b rest = append_assoc taken (b ∷ []) rest

step_count : (m g x y n k : ℕ) → m + x ≡ n + 2 → g + y ≡ x + 1 → k ≡ n + 1 → (m + g) + y ≡ k + 2
step_count m g x y n k e f h = omega arith

step_finds : (p q : DataState) (taken : List ℕ) (b : ℕ) (new : List ℕ) (s : IsInState p taken) (e : PlaceStep p q b new) (rest : List ℕ)
    → end_in (crlf ++ ((taken ++ b ∷ []) ++ rest)) ≡ moved (s.before + e.gone) (end_in (came q ++ rest))
step_finds p q taken b new s e rest =
    ap (λ l. end_in (crlf ++ l)) (snoc taken b rest) ∙ s.finds (b ∷ rest) ∙ ap (λ o. moved s.before o) (e.finds rest)
    ∙ moved_more s.before e.gone (end_in (came q ++ rest))

nothing_at : (state : DataState) → without_dots_at state [] ≡ []
nothing_at InText = refl
nothing_at AfterCr = refl
nothing_at LineStart = refl
nothing_at AfterDot = refl
nothing_at AfterDotCr = refl

step_unstuffed : (p q : DataState) (taken : List ℕ) (b : ℕ) (new : List ℕ) → IsInState p taken → PlaceStep p q b new
    → unstuffed (taken ++ b ∷ []) ≡ unstuffed taken ++ new
step_unstuffed p q taken b new s e = s.after (b ∷ []) ∙ ap (λ l. unstuffed taken ++ l) (e.after [] ∙ ap (λ l. new ++ l) (nothing_at q) ∙ append-nil new)

step_after : (p q : DataState) (taken : List ℕ) (b : ℕ) (new : List ℕ) → IsInState p taken → PlaceStep p q b new → (rest : List ℕ)
    → unstuffed ((taken ++ b ∷ []) ++ rest) ≡ unstuffed (taken ++ b ∷ []) ++ without_dots_at q rest
step_after p q taken b new s e rest =
    ap unstuffed (snoc taken b rest) ∙ s.after (b ∷ rest) ∙ ap (λ l. unstuffed taken ++ l) (e.after rest)
    ∙ sym (append_assoc (unstuffed taken) new (without_dots_at q rest)) ∙ ap (λ l. l ++ without_dots_at q rest) (sym (step_unstuffed p q taken b new s e))

-- what is sure with one more byte
prefix_of : (taken : List ℕ) (b : ℕ) → take (length (taken ++ b ∷ []) - 1) (taken ++ b ∷ []) ≡ taken
prefix_of taken b =
    let n : length (taken ++ b ∷ []) - 1 ≡ length taken = omega (arith, length-append taken (b ∷ [])) in
    ap (λ k. take k (taken ++ b ∷ [])) n ∙ take-append_seam taken (b ∷ [])

shown_next : (p : DataState) (taken : List ℕ) (b : ℕ) → IsInState p taken
    → shown (taken ++ b ∷ []) ≡ unstuffed (cond (is_dot p && (cr == b)) taken (taken ++ b ∷ []))
unfolding shown
shown_next p taken b s =
    ap (λ t. unstuffed (cond t (take (length (taken ++ b ∷ []) - 1) (taken ++ b ∷ [])) (taken ++ b ∷ [])))
    (ends_more (crlf ++ dot ∷ []) (crlf ++ taken) cr b ∙ ap (λ t. t && (cr == b)) s.dot_last)
    ∙ ap (λ l. unstuffed (cond (is_dot p && (cr == b)) l (taken ++ b ∷ []))) (prefix_of taken b)

ends_in_none : (u : List ℕ) → ends_in [] u ≡ true
ends_in_none u =
    let n : length u - 0 ≡ length u = omega arith in
    ap (λ k. pointwise nat_eq [] (drop k u)) n ∙ ap (λ l. pointwise nat_eq [] (drop (length u) l)) (sym (append-nil u))
    ∙ ap (λ l. pointwise nat_eq [] l) (drop-append_seam u [])

stands_next : (p q : DataState) (taken : List ℕ) (b : ℕ) (new : List ℕ) → IsInState p taken → PlaceStep p q b new → (lead : List ℕ)
    → taken ++ b ∷ [] ≡ lead ++ in_doubt q
    → unstuffed lead ≡ shown (taken ++ b ∷ []) → unstuffed (taken ++ b ∷ []) ≡ shown (taken ++ b ∷ []) ++ held_back q → IsInState q (taken ++ b ∷ [])
stands_next p q taken b new s e lead whole content sure = record {
  before = s.before + e.gone;
  count = step_count s.before e.gone _ _ _ _ s.count e.count (length-append taken (b ∷ []));
  finds = step_finds p q taken b new s e;
  cr_last = ends_more [] (crlf ++ taken) cr b ∙ ap (λ t. t && (cr == b)) (ends_in_none (crlf ++ taken)) ∙ e.cr_last;
  crlf_last = ends_more (cr ∷ []) (crlf ++ taken) lf b ∙ ap (λ t. t && (lf == b)) s.cr_last ∙ e.crlf_last;
  dot_last = ends_more crlf (crlf ++ taken) dot b ∙ ap (λ t. t && (dot == b)) s.crlf_last ∙ e.dot_last;
  after = step_after p q taken b new s e;
  lead = lead;
  whole = whole;
  content = content;
  sure = sure;
}

-- the byte is content
adds_byte : (p q : DataState) (taken : List ℕ) (b : ℕ) → IsInState p taken → PlaceStep p q b (b ∷ []) → in_doubt q ≡ [] → held_back q ≡ []
    → is_dot p && (cr == b) ≡ false
    → Adds q taken b (held_back p ++ b ∷ [])
adds_byte p q taken b s e doubt holds other =
    let all : shown (taken ++ b ∷ []) ≡ unstuffed (taken ++ b ∷ []) = shown_next p taken b s ∙ ap (λ t. unstuffed (cond t taken (taken ++ b ∷ []))) other in
    record {
      stands = stands_next p q taken b (b ∷ []) s e (taken ++ b ∷ [])
          (sym (append-nil (taken ++ b ∷ [])) ∙ ap (λ l. (taken ++ b ∷ []) ++ l) (sym doubt))
          (sym all)
          (sym all ∙ sym (append-nil (shown (taken ++ b ∷ []))) ∙ ap (λ l. shown (taken ++ b ∷ []) ++ l) (sym holds));
      shows = all ∙ step_unstuffed p q taken b (b ∷ []) s e ∙ ap (λ l. l ++ b ∷ []) s.sure ∙ append_assoc (shown taken) (held_back p) (b ∷ []);
    }

-- a dot at a line's start is dropped
step_dot : PlaceStep LineStart AfterDot dot []
step_dot = record { gone = 0; count = refl; finds = λ t. refl; cr_last = refl; crlf_last = refl; dot_last = refl; after = λ t. fades lf dot t refl refl }

adds_dot : (taken : List ℕ) → IsInState LineStart taken → Adds AfterDot taken dot []
adds_dot taken s =
    let all : shown (taken ++ dot ∷ []) ≡ unstuffed (taken ++ dot ∷ []) = shown_next LineStart taken dot s in
    let same : unstuffed (taken ++ dot ∷ []) ≡ unstuffed taken = step_unstuffed LineStart AfterDot taken dot [] s step_dot ∙ append-nil (unstuffed taken) in
    record {
      stands = stands_next LineStart AfterDot taken dot [] s step_dot taken refl (sym (all ∙ same)) (sym all ∙ sym (append-nil (shown (taken ++ dot ∷ []))));
      shows = all ∙ same ∙ s.sure;
    }

-- a CR after such a dot is held back
step_held : PlaceStep AfterDot AfterDotCr cr (cr ∷ [])
step_held = record { gone = 0; count = refl; finds = λ t. refl; cr_last = refl; crlf_last = refl; dot_last = refl; after = λ t. refl }

adds_held : (taken : List ℕ) → IsInState AfterDot taken → Adds AfterDotCr taken cr []
adds_held taken s =
    let same : shown (taken ++ cr ∷ []) ≡ unstuffed taken = shown_next AfterDot taken cr s in
    let all : unstuffed taken ≡ shown taken = s.sure ∙ append-nil (shown taken) in
    record {
      stands = stands_next AfterDot AfterDotCr taken cr (cr ∷ []) s step_held s.lead
          (ap (λ l. l ++ cr ∷ []) s.whole ∙ append_assoc s.lead (dot ∷ []) (cr ∷ []))
          (s.content ∙ sym all ∙ sym same)
          (step_unstuffed AfterDot AfterDotCr taken cr (cr ∷ []) s step_held ∙ ap (λ l. l ++ cr ∷ []) (sym same));
      shows = same ∙ s.sure;
    }

-- LF after that CR ends the data
ends_data : (taken : List ℕ) → IsInState AfterDotCr taken → IsDataEnd (taken ++ lf ∷ []) (shown taken)
unfolding data_end message
ends_data taken s =
    let at : length s.lead ≡ s.before = omega (arith, s.count, ap length s.whole, length-append s.lead (dot ∷ cr ∷ [])) in
    let found : place_of end_of_data (crlf ++ (taken ++ lf ∷ [])) ≡ Some (length s.lead) =
    s.finds (lf ∷ []) ∙ moved_some s.before ∙ ap (λ n. Some n) (sym at) in
    let parts : taken ++ lf ∷ [] ≡ s.lead ++ (dot ∷ crlf) = ap (λ l. l ++ lf ∷ []) s.whole ∙ append_assoc s.lead (dot ∷ cr ∷ []) (lf ∷ []) in
    record {
      end = length s.lead;
      ends = found;
      last = ap length parts ∙ length-append s.lead (dot ∷ crlf);
      message = sym s.content ∙ ap unstuffed (sym (take-append_seam s.lead (dot ∷ crlf)) ∙ ap (λ l. take (length s.lead) l) (sym parts))
          ∙ ap (λ o. unstuffed (take (unwrap_or o (length (taken ++ lf ∷ []))) (taken ++ lf ∷ []))) (sym found);
    }

-- bytes that are content, and LF after CR
step_text : (b : ℕ) → (b == cr) ≡ false → (cr == b) ≡ false → PlaceStep InText InText b (b ∷ [])
step_text b e f = record {
  gone = 1;
  count = refl;
  finds = λ t. text_other b t f;
  cr_last = f;
  crlf_last = refl;
  dot_last = refl;
  after = λ t. ap (λ l. b ∷ l) (fades 0 b t e refl);
}

step_text_cr : PlaceStep InText AfterCr cr (cr ∷ [])
step_text_cr = record { gone = 0; count = refl; finds = λ t. refl; cr_last = refl; crlf_last = refl; dot_last = refl; after = λ t. refl }

step_cr_cr : PlaceStep AfterCr AfterCr cr (cr ∷ [])
step_cr_cr = record {
  gone = 1;
  count = refl;
  finds = cr_again;
  cr_last = refl;
  crlf_last = refl;
  dot_last = refl;
  after = λ t. ap (λ l. cr ∷ l) (fades_cr cr t);
}

step_cr_lf : PlaceStep AfterCr LineStart lf (lf ∷ [])
step_cr_lf = record { gone = 0; count = refl; finds = λ t. refl; cr_last = refl; crlf_last = refl; dot_last = refl; after = λ t. refl }

step_cr : (b : ℕ) → (lf == b) ≡ false → (b == lf) ≡ false → (b == cr) ≡ false → (cr == b) ≡ false → PlaceStep AfterCr InText b (b ∷ [])
step_cr b g h e f = record {
  gone = 2;
  count = refl;
  finds = λ t. cr_other b t g f;
  cr_last = f;
  crlf_last = g;
  dot_last = refl;
  after = λ t. ap (λ l. b ∷ l) (fades cr b t e h);
}

step_start_cr : PlaceStep LineStart AfterCr cr (cr ∷ [])
step_start_cr = record {
  gone = 2;
  count = refl;
  finds = start_cr;
  cr_last = refl;
  crlf_last = refl;
  dot_last = refl;
  after = λ t. ap (λ l. cr ∷ l) (fades_cr lf t);
}

step_start : (b : ℕ) → (dot == b) ≡ false → (b == dot) ≡ false → (b == cr) ≡ false → (cr == b) ≡ false → PlaceStep LineStart InText b (b ∷ [])
step_start b g h e f = record {
  gone = 3;
  count = refl;
  finds = λ t. start_other b t g f;
  cr_last = f;
  crlf_last = refl;
  dot_last = g;
  after = λ t. ap (λ x. cond x (without_dots lf b t) (b ∷ without_dots lf b t)) h ∙ ap (λ l. b ∷ l) (fades lf b t e refl);
}

step_after_dot : (b : ℕ) → (b == cr) ≡ false → (cr == b) ≡ false → PlaceStep AfterDot InText b (b ∷ [])
step_after_dot b e f = record {
  gone = 4;
  count = refl;
  finds = λ t. dot_other b t f;
  cr_last = f;
  crlf_last = refl;
  dot_last = refl;
  after = λ t. ap (λ l. b ∷ l) (fades 0 b t e refl);
}

step_dot_cr_cr : PlaceStep AfterDotCr AfterCr cr (cr ∷ [])
step_dot_cr_cr = record {
  gone = 4;
  count = refl;
  finds = dot_cr_again;
  cr_last = refl;
  crlf_last = refl;
  dot_last = refl;
  after = λ t. ap (λ l. cr ∷ l) (fades_cr cr t);
}

step_dot_cr : (b : ℕ) → (lf == b) ≡ false → (b == lf) ≡ false → (b == cr) ≡ false → (cr == b) ≡ false → PlaceStep AfterDotCr InText b (b ∷ [])
step_dot_cr b g h e f = record {
  gone = 5;
  count = refl;
  finds = λ t. dot_cr_other b t g f;
  cr_last = f;
  crlf_last = g;
  dot_last = refl;
  after = λ t. ap (λ l. b ∷ l) (fades cr b t e h);
}

-- a byte that doesn't go on with an end begins it at best
begun_by : (p : DataState) (taken : List ℕ) (b : ℕ) (t : Bool) → (b == cr) ≡ t → IsInState p taken → PlaceStep p AfterCr cr (cr ∷ [])
    → ((b == cr) ≡ false → (cr == b) ≡ false → PlaceStep p InText b (b ∷ [])) → is_dot p ≡ false → Adds (cond t AfterCr InText) taken b (held_back p ++ b ∷ [])
begun_by p taken b true e s again other none =
    let P : ℕ → Type 0 = λ x. Adds AfterCr taken x (held_back p ++ x ∷ []) in
    subst P (sym (eqb-true b cr e)) (adds_byte p AfterCr taken cr s again refl refl (ap (λ x. x && true) none))
begun_by p taken b false e s again other none =
    let f : (cr == b) ≡ false = eqb_comm cr b ∙ e in
    adds_byte p InText taken b s (other e f) refl refl (ap (λ x. x && (cr == b)) none)

adds_text : (taken : List ℕ) (b : ℕ) → IsInState InText taken → Adds (state_next InText b) taken b (b ∷ [])
adds_text taken b s = begun_by InText taken b (b == cr) refl s step_text_cr (step_text b) refl

adds_lf : (taken : List ℕ) → IsInState AfterCr taken → Adds LineStart taken lf (lf ∷ [])
adds_lf taken s = adds_byte AfterCr LineStart taken lf s step_cr_lf refl refl refl

after_cr : (taken : List ℕ) (b : ℕ) (t : Bool) → (b == lf) ≡ t → IsInState AfterCr taken
    → Adds (cond (b == cr) AfterCr (cond t LineStart InText)) taken b (b ∷ [])
after_cr taken b true e s =
    let P : ℕ → Type 0 = λ x. Adds (cond (x == cr) AfterCr LineStart) taken x (x ∷ []) in
    subst P (sym (eqb-true b lf e)) (adds_lf taken s)
after_cr taken b false e s = begun_by AfterCr taken b (b == cr) refl s step_cr_cr (step_cr b (eqb_comm lf b ∙ e) e) refl

adds_after_cr : (taken : List ℕ) (b : ℕ) → IsInState AfterCr taken → Adds (state_next AfterCr b) taken b (b ∷ [])
adds_after_cr taken b s = after_cr taken b (b == lf) refl s

adds_start : (taken : List ℕ) (b : ℕ) → (b == dot) ≡ false → IsInState LineStart taken → Adds (state_next LineStart b) taken b (b ∷ [])
adds_start taken b other s =
    begun_by LineStart taken b (b == cr) refl s step_start_cr (step_start b (eqb_comm dot b ∙ other) other) refl

adds_after_dot : (taken : List ℕ) (b : ℕ) → (b == cr) ≡ false → IsInState AfterDot taken → Adds (state_next AfterDot b) taken b (b ∷ [])
adds_after_dot taken b other s =
    let f : (cr == b) ≡ false = eqb_comm cr b ∙ other in
    let P : Bool → Type 0 = λ x. Adds (cond x AfterCr InText) taken b (b ∷ []) in
    subst P (sym other) (adds_byte AfterDot InText taken b s (step_after_dot b other f) refl refl f)

adds_after_dot_cr : (taken : List ℕ) (b : ℕ) → (b == lf) ≡ false → IsInState AfterDotCr taken → Adds (state_next AfterDotCr b) taken b (cr ∷ b ∷ [])
adds_after_dot_cr taken b other s =
    let P : Bool → Type 0 = λ x. Adds (cond (b == cr) AfterCr (cond x LineStart InText)) taken b (cr ∷ b ∷ []) in
    subst P (sym other) (begun_by AfterDotCr taken b (b == cr) refl s step_dot_cr_cr (step_dot_cr b (eqb_comm lf b ∙ other) other) refl)

-- the tests of a byte
by_dot : (taken : List ℕ) (b : ℕ) (t : Bool) → (b == dot) ≡ t → IsInState LineStart taken
    → Brings taken b (cond t (Nothing AfterDot) (Byte (state_next LineStart b)))
by_dot taken b true e s = let P : ℕ → Type 0 = λ x. Adds AfterDot taken x [] in subst P (sym (eqb-true b dot e)) (adds_dot taken s)
by_dot taken b false e s = adds_start taken b e s

by_cr : (taken : List ℕ) (b : ℕ) (t : Bool) → (b == cr) ≡ t → IsInState AfterDot taken
    → Brings taken b (cond t (Nothing AfterDotCr) (Byte (state_next AfterDot b)))
by_cr taken b true e s = let P : ℕ → Type 0 = λ x. Adds AfterDotCr taken x [] in subst P (sym (eqb-true b cr e)) (adds_held taken s)
by_cr taken b false e s = adds_after_dot taken b e s

by_last_lf : (taken : List ℕ) (b : ℕ) (t : Bool) → (b == lf) ≡ t → IsInState AfterDotCr taken → Brings taken b (cond t End (HeldCr (state_next AfterDotCr b)))
by_last_lf taken b true e s = let P : ℕ → Type 0 = λ x. IsDataEnd (taken ++ x ∷ []) (shown taken) in subst P (sym (eqb-true b lf e)) (ends_data taken s)
by_last_lf taken b false e s = adds_after_dot_cr taken b e s

brings : (state : DataState) (taken : List ℕ) (b : ℕ) → IsInState state taken → Brings taken b (effect_of state b)
brings InText taken b s = adds_text taken b s
brings AfterCr taken b s = adds_after_cr taken b s
brings LineStart taken b s = by_dot taken b (b == dot) refl s
brings AfterDot taken b s = by_cr taken b (b == cr) refl s
brings AfterDotCr taken b s = by_last_lf taken b (b == lf) refl s

pub brings_as : (state : DataState) (b : ℕ) (effect : Effect) → effect ≡ effect_of state b → (taken : List ℕ) → IsInState state taken → Brings taken b effect
brings_as state b effect e taken s = let P : Effect → Type 0 = λ x. Brings taken b x in subst P (sym e) (brings state taken b s)

-- what stands nowhere in doubt stays so with content
settled_by : (x y : Bool) → in_doubt (cond x AfterCr (cond y LineStart InText)) ≡ []
settled_by true y = refl
settled_by false true = refl
settled_by false false = refl

not_false : (x : Bool) → not x ≡ true → x ≡ false
not_false true e = cc
not_false false e = refl

adds_content : (p : DataState) (taken : List ℕ) (b : ℕ) → in_doubt p ≡ [] → not (is_start p && (b == dot)) ≡ true → IsInState p taken
    → Adds (state_next p b) taken b (b ∷ [])
adds_content InText taken b settled e s = adds_text taken b s
adds_content AfterCr taken b settled e s = adds_after_cr taken b s
adds_content LineStart taken b settled e s = adds_start taken b (not_false (b == dot) e) s
adds_content AfterDot taken b settled e s = cc
adds_content AfterDotCr taken b settled e s = cc

-- with a run of content the data stands there, and the run is sure
pub record AddsRun (state : DataState) (taken run : List ℕ) : Type 0 where
  pub stands : IsInState state (taken ++ run)
  pub shows : shown (taken ++ run) ≡ shown taken ++ run

pub adds_run : (p : DataState) (taken run : List ℕ) → in_doubt p ≡ [] → is_undotted p run ≡ true → IsInState p taken → AddsRun (state_after p run) taken run
adds_run p taken [] settled e s =
    let P : List ℕ → Type 0 = λ l. IsInState p l in
    record { stands = subst P (sym (append-nil taken)) s; shows = ap shown (append-nil taken) ∙ sym (append-nil (shown taken)) }
adds_run p taken (b ∷ run) settled e s =
    let parts = and_parts (not (is_start p && (b == dot))) (is_undotted (state_next p b) run) e in
    let one = adds_content p taken b settled parts.0 s in
    let more = adds_run (state_next p b) (taken ++ b ∷ []) run (settled_by (b == cr) (is_cr p && (b == lf))) parts.1 one.stands in
    let P : List ℕ → Type 0 = λ l. IsInState (state_after (state_next p b) run) l in
    record {
      stands = subst P (snoc taken b run) more.stands;
      shows = ap shown (sym (snoc taken b run)) ∙ more.shows ∙ ap (λ l. l ++ run) one.shows ∙ append_assoc (shown taken) (b ∷ []) run;
    }

-- Pieces that are taken, whatever came before.
use Rattle.std.proofs.Common.{◌≡◌, inl, inr, ℕ, suc, ◌+◌, ◌-◌, ◌<◌, arith, Bool, true, false, ◌==◌, List, [], ◌∷◌, ◌++◌, length, take, drop, Option, Some, None}
use Rattle.std.proofs.Common.{Ok, Err, sym, ap, subst, ◌∙◌, refl, append_assoc, append-nil}
use Rattle.std.specs.Prelude.{slice_index}
use Rattle.std.proofs.lemmas.Bool.{eqb-true, false≢true}
use Rattle.std.proofs.lemmas.List.{length-append, take_all, take_rest, take-append-drop}
use Rattle.memchr.specs.Find.{Nowhere, NoneBefore, Passes, is_byte2}
use Rattle.mail_world.specs.Counts.{counted}
use Rattle.mail_world.specs.Malformed.{nul}
use Rattle.mail_world.specs.Text.{lf, IsOneLine}
use Rattle.mail_world.specs.Reading.{Letter}
use Rattle.mail_world.proofs.OneLine.{literal}
use Rattle.mbox_check.specs.declared.form.FormCheck.{FormCheck}
use Rattle.mbox_check.specs.declared.found.Found.{Found}
use Rattle.mbox_check.specs.declared.found.NulAt.{NulAt}
use Rattle.mbox_check.specs.declared.state.Part.{Part}
use Rattle.mbox_check.specs.declared.state.Part.TheVariants.{Nothing, F, Fr, Fro, From}
use Rattle.mbox_check.specs.declared.state.FormState.{FormState}
use Rattle.mbox_check.specs.declared.state.FormState.TheVariants.{Start, Open, Line, Inside}
use Rattle.mbox_check.specs.declared.state.Effect.TheVariants.{To, Begin, Break}
use Rattle.mbox_check.specs.Form.{IsMailboxOf, IsInLetter, IsLetterCount, IsFirstNul, TellsNul, IsFound, counted_start}
use Rattle.mbox_check.specs.States.{part_text, is_nothing, is_whole, effect_at, bad_at, nul_after}
use Rattle.mbox_check.specs.SoFar.{Begun, IsInsideLine, EndsAt, IsFree, IsReadSoFar, ReadsOn, BreaksIn}
use Rattle.mbox_check.proofs.Bodies.{length-push, body_ended, body_in_letter}
use Rattle.mbox_check.proofs.Breaks.{take_prefix, end_breaks, bad_end}
use Rattle.mbox_check.proofs.Bytes.{LeadsTo, byte_leads, inside_more, nul_leads}
use Rattle.mbox_check.proofs.Nuls.{nul_in, nul_alone, none_after, nul_after_none, free_before, tells_on, tells_more}
use Rattle.mbox_check.proofs.Sound.{found_whole, found_broken}

-- ---- counts

taken_on : (text bytes : List ℕ) (taken k : ℕ) → taken ≡ counted (length text) → length bytes ≡ k → counted (taken + k) ≡ counted (length (text ++ bytes))
taken_on text bytes taken k t e = let long : length (text ++ bytes) ≡ length text + length bytes = length-append text bytes in omega arith

one_more : (letters n : ℕ) → letters ≡ counted n → counted (letters + 1) ≡ counted (suc n)
one_more letters n e = omega arith

-- ---- what is told of NULs

-- after a byte that isn't the first one, or is
told_after : (text : List ℕ) (b : ℕ) (told : Option NulAt) (here : NulAt) (t : Bool) → (b == nul) ≡ t → TellsNul text told
    → (b ≡ nul → nul_in text ≡ None → IsFirstNul (text ++ b ∷ []) here) → TellsNul (text ++ b ∷ []) (nul_after told b here)
told_after text b (Some first) here t e h new = tells_more text (b ∷ []) first h
told_after text b None here true e h new = rw e (new (eqb-true b nul e) h)
told_after text b None here false e h new = rw e (none_after text (b ∷ []) h (nul_alone b e))

-- a NUL that leads inside a line is in the letter that has begun
first_nul : (text : List ℕ) (n : Begun) (form : FormCheck) → form.taken ≡ counted (length text) → form.letters ≡ counted n.count
    → form.start ≡ counted_start n.start → IsInsideLine (text ++ nul ∷ []) n → nul_in text ≡ None
    → IsFirstNul (text ++ nul ∷ []) (record { place = form.taken; letter = form.letters; start = form.start })
first_nul text n form t l s i none =
    let whole : List ℕ = text ++ nul ∷ [] in
    let long : length whole ≡ suc (length text) = length-append text (nul ∷ []) ∙ (omega arith) in record {
      p = length text;
      number = n.count;
      s = n.start;
      first = nul_after_none text none;
      within = subst (λ (k : ℕ). IsInLetter whole k n.count n.start) long
          (body_in_letter whole whole n (i.goes [] (literal [] refl)) (take_all (length whole) whole (omega arith)));
      is = rw (t, l, s) refl;
    }

-- ---- a byte

nul_goes_inside : (from state : FormState) → effect_at from nul ≡ To state → state ≡ Inside
nul_goes_inside from state e = elim (nul_leads from) [ inl f ↦ cc | inr f ↦ cc ]

begins_no_nul : (from : FormState) (b : ℕ) → effect_at from b ≡ Begin → b ≡ nul → ⊥
begins_no_nul from b e z = let f : effect_at from nul ≡ Begin = ap (λ c. effect_at from c) (sym z) ∙ e in elim (nul_leads from) [ inl g ↦ cc | inr g ↦ cc ]

other_than_nul : (b : ℕ) (t : Bool) → (b == nul) ≡ t → (b ≡ nul → ⊥) → t ≡ false
other_than_nul b true e no' = absurd (no' (eqb-true b nul e))
other_than_nul b false e no' = refl

pub byte_to : (form : FormCheck) (b : ℕ) (state : FormState) → effect_at form.state b ≡ To state
    → ReadsOn form (record form {
      state = state;
      taken = counted (form.taken + 1);
      nul = nul_after form.nul b (record { place = form.taken; letter = form.letters; start = form.start });
    }) (b ∷ [])
byte_to form b state e = record {
  goes = λ prefix s.
      let led : EndsAt (prefix ++ b ∷ []) s.n state = subst (λ x. LeadsTo form.state prefix s.n b x) e (byte_leads form.state prefix s.n b s.at) in record {
        n = s.n;
        count = s.count;
        taken = taken_on prefix (b ∷ []) form.taken 1 s.taken refl;
        start = s.start;
        at = led;
        told = told_after prefix b form.nul (record { place = form.taken; letter = form.letters; start = form.start }) (b == nul) refl s.told (λ z none.
            let inside : state ≡ Inside = nul_goes_inside form.state state (ap (λ c. effect_at form.state c) (sym z) ∙ e) in
            let at : IsInsideLine (prefix ++ b ∷ []) s.n = subst (λ x. EndsAt (prefix ++ b ∷ []) s.n x) inside led in
            subst (λ c. IsFirstNul (prefix ++ c ∷ []) (record { place = form.taken; letter = form.letters; start = form.start })) (sym z)
            (first_nul prefix s.n form s.taken s.count s.start (subst (λ c. IsInsideLine (prefix ++ c ∷ []) s.n) z at) none));
      };
}

pub byte_begin : (form : FormCheck) (b : ℕ) → effect_at form.state b ≡ Begin
    → ReadsOn form (record form { letters = counted (form.letters + 1); start = form.taken - 4; state = Inside; taken = counted (form.taken + 1) }) (b ∷ [])
byte_begin form b e = record {
  goes = λ prefix s.
      let led = subst (λ x. LeadsTo form.state prefix s.n b x) e (byte_leads form.state prefix s.n b s.at) in record {
        n = record { count = suc s.n.count; start = led.0 };
        count = one_more form.letters s.n.count s.count;
        taken = taken_on prefix (b ∷ []) form.taken 1 s.taken refl;
        start = ap (λ k. k - 4) (s.taken ∙ ap (λ k. counted k) led.1);
        at = led.2;
        told = tells_on prefix (b ∷ []) form.nul (nul_alone b (other_than_nul b (b == nul) refl (begins_no_nul form.state b e))) s.told;
      };
}

pub byte_break : (form : FormCheck) (b : ℕ) → effect_at form.state b ≡ Break
    → BreaksIn form (b ∷ []) (record { letters = Err (bad_at form.state form.taken form.letters form.start); nul = form.nul })
byte_break form b e = record {
  goes = λ prefix more s.
      let led = subst (λ x. LeadsTo form.state prefix s.n b x) e (byte_leads form.state prefix s.n b s.at) more form.taken form.letters form.start s.taken
      s.count s.start in
      found_broken (prefix ++ b ∷ more) (bad_at form.state form.taken form.letters form.start) (length prefix) form.nul led.0 led.1
      (subst (λ (l : List ℕ). TellsNul l form.nul) (sym (take_prefix prefix (b ∷ more))) s.told);
}

pub first_breaks : (form : FormCheck) (text : List ℕ) (found : Found) → 0 < length text → BreaksIn form (slice_index text 0 ∷ []) found → BreaksIn form text found
first_breaks form [] found some h = absurd (omega arith)
first_breaks form (b ∷ text) found some h = record { goes = λ prefix more s. h.goes prefix (text ++ more) s }

-- ---- a line's rest, up to its end or a NUL

inside_on : (text piece : List ℕ) (n : Begun) → 0 < length piece → IsInsideLine text n → IsOneLine piece → IsInsideLine (text ++ piece) n
inside_on text [] n some i one = absurd (omega arith)
inside_on text (b ∷ piece) n some i one = inside_more text n b piece i one

pub free_taken : (form : FormCheck) (bytes : List ℕ) (k : ℕ) → IsFree form.state bytes → 0 < k → length bytes ≡ k
    → ReadsOn form (record form { state = Inside; taken = counted (form.taken + k) }) bytes
free_taken form bytes k free some e = record {
  goes = λ prefix s. record {
    n = s.n;
    count = s.count;
    taken = taken_on prefix bytes form.taken k s.taken e;
    start = s.start;
    at = inside_on prefix bytes s.n (omega arith) (subst (λ p. EndsAt prefix s.n p) free.inside s.at) free.one;
    told = tells_on prefix bytes form.nul free.none s.told;
  };
}

pub free_found : (text : List ℕ) (k : ℕ) → NoneBefore (Passes (is_byte2 10 0) text) 0 (length text) k → IsFree Inside (take k text)
free_found text k none =
    let free = free_before text k (λ j q. none.before j (omega arith) q) in record { inside = refl; one = record { no_lf = free.0 }; none = free.1 }

pub free_all : (text : List ℕ) → Nowhere (Passes (is_byte2 10 0) text) 0 (length text) → IsFree Inside (take (length text) text)
free_all text none =
    let free = free_before text (length text) (λ j q. none j (omega arith) q) in record { inside = refl; one = record { no_lf = free.0 }; none = free.1 }

-- ---- a piece, up to a rest of it

pub record IsTakenUpTo (old new : FormCheck) (piece rest : List ℕ) : Type 0 where
  pub used : List ℕ
  pub whole : piece ≡ used ++ rest
  pub taken : ReadsOn old new used

pub taken_more : (old mid new : FormCheck) (piece rest : List ℕ) (n : ℕ) → IsTakenUpTo old mid piece rest → ReadsOn mid new (take n rest)
    → IsTakenUpTo old new piece (take (length rest - n) (drop n rest))
taken_more old mid new piece rest n t h = record {
  used = t.used ++ take n rest;
  whole = t.whole ∙ ap (λ (l : List ℕ). t.used ++ l) (sym (take-append-drop n rest) ∙ ap (λ (l : List ℕ). take n rest ++ l) (sym (take_rest rest n)))
      ∙ sym (append_assoc t.used (take n rest) (take (length rest - n) (drop n rest)));
  taken = record {
    goes = λ prefix s. subst (λ (l : List ℕ). IsReadSoFar l new) (append_assoc prefix t.used (take n rest)) (h.goes (prefix ++ t.used) (t.taken.goes prefix s));
  };
}

pub taken_breaks : (old mid : FormCheck) (piece rest : List ℕ) (found : Found) → IsTakenUpTo old mid piece rest → BreaksIn mid rest found → BreaksIn old piece found
taken_breaks old mid piece rest found t h = record {
  goes = λ prefix more s.
      let whole : (prefix ++ t.used) ++ (rest ++ more) ≡ prefix ++ (piece ++ more) =
      append_assoc prefix t.used (rest ++ more)
      ∙ ap (λ (l : List ℕ). prefix ++ l) (sym (append_assoc t.used rest more) ∙ ap (λ (l : List ℕ). l ++ more) (sym t.whole)) in
      subst (λ (l : List ℕ). IsFound l found) whole (h.goes (prefix ++ t.used) more (t.taken.goes prefix s));
}

-- ---- the end

nothing_text : (part : Part) → is_nothing part ≡ true → part_text part ≡ []
nothing_text Nothing e = refl
nothing_text F e = absurd (false≢true e)
nothing_text Fr e = absurd (false≢true e)
nothing_text Fro e = absurd (false≢true e)
nothing_text From e = absurd (false≢true e)

whole_at : (state : FormState) (text : List ℕ) (n : Begun) (letters : ℕ) → letters ≡ counted n.count → EndsAt text n state → is_whole state ≡ true → IsLetterCount text letters
whole_at (Start part) text n letters e at f =
    ([], record { are = tt; whole = sym (at.1 ∙ nothing_text part f) }, e ∙ ap (λ k. counted k) at.0)
whole_at (Open part) text n letters e at f =
    let ended = body_ended at.before n at.body in
    let whole : text ≡ at.before ++ lf ∷ [] =
    at.whole ∙ ap (λ (l : List ℕ). (at.before ++ lf ∷ []) ++ l) (nothing_text part f) ∙ append-nil (at.before ++ lf ∷ []) in
    let all : List Letter = ended.before ++ ended.last ∷ [] in (
      all,
      subst (λ (l : List ℕ). IsMailboxOf l all) (sym whole) ended.is,
      e ∙ ap (λ k. counted k) (ended.count ∙ sym (length-push ended.before ended.last)),
    )
whole_at (Line part) text n letters e at f = absurd (false≢true f)
whole_at Inside text n letters e at f = absurd (false≢true f)

pub end_whole : (form : FormCheck) → is_whole form.state ≡ true → (text : List ℕ) → IsReadSoFar text form
    → IsFound text (record { letters = Ok form.letters; nul = form.nul })
end_whole form f text s = found_whole text form.letters form.nul (whole_at form.state text s.n form.letters s.count s.at f) s.told

pub end_broken : (form : FormCheck) → is_whole form.state ≡ false → (text : List ℕ) → IsReadSoFar text form
    → IsFound text (record { letters = Err (bad_at form.state form.taken form.letters form.start); nul = form.nul })
end_broken form f text s =
    found_broken text (bad_at form.state form.taken form.letters form.start) (length text) form.nul
    (bad_end form.state text s.n form.taken form.letters form.start s.taken s.count s.start s.at f) (end_breaks form.state text s.n s.at f)
    (subst (λ (l : List ℕ). TellsNul l form.nul) (sym (take_all (length text) text (omega arith))) s.told)

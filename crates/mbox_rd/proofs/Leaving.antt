-- What a crash leaves at the moments of a call, and of calls one after another.
use Rattle.std.proofs.Common.{◌≡◌, inl, inr, ⊎_elim, ℕ, ◌≤◌, arith, true, false, List, [], ◌∷◌, ◌++◌, length, take, min}
use Rattle.std.proofs.Common.{Result, Ok, Err, OnOk, OnErr, refl, sym, ap, ◌∙◌, subst, append_assoc, append-nil}
use Rattle.std.proofs.Common.{length-append}
use Rattle.std.specs.List.{AllByRecursion}
use Rattle.std.specs.Result.{is_ok}
use Rattle.std.proofs.lemmas.List.{length-take, take_at}
use Rattle.mail_world.specs.Prefixes.{IsPrefix}
use Rattle.mail_world.specs.Turns.{Standing}
use Rattle.mail_lives.proofs.Lists.{all_both}
use Rattle.mbox_file.specs.declared.file.FileEnd.{FileEnd}
use Rattle.mbox_file.specs.MailboxFile.{FileState, at_now, at_write, at_cut, HasAppended, HasNotAppended, KeepsFile}
use Rattle.mbox_file.specs.MailboxFile.{FailsToKeep, HasCut, HasNotCut}
use Rattle.mbox_file.specs.Moment.{Moment, LeavesOne, LeavesAt}
use Rattle.mbox_file.proofs.Written.{part_of}
use Rattle.mbox_rd.specs.FileSpool.{BeginsWith}
use Rattle.mbox_rd.specs.Moments.{LeavesOnly, LeavesOfTurn}
use Rattle.mbox_rd.specs.Turn.{HasLetGo, HasBegun, StaysThere}

pub prefix_of : (xs ys zs : List ℕ) → IsPrefix xs ys → IsPrefix ys zs → IsPrefix xs zs
prefix_of xs ys zs x y = record {
  rest = x.rest ++ y.rest;
  whole = y.whole ∙ ap (λ (l : List ℕ). l ++ y.rest) x.whole ∙ append_assoc xs x.rest y.rest;
}

pub prefix_itself : (xs : List ℕ) → IsPrefix xs xs
prefix_itself xs = record { rest = []; whole = sym (append-nil xs) }

pub prefix_appended : (xs ys : List ℕ) → IsPrefix xs (xs ++ ys)
prefix_appended xs ys = record { rest = ys; whole = refl }

one_weaker : (least kept : ℕ) (contents : List (List ℕ)) (left : List ℕ) → least ≤ kept → LeavesOne kept contents left
    → LeavesOne least contents left
one_weaker least kept [] left few none = none
one_weaker least kept (content ∷ contents) left few (inl first) =
    let kept_are = first.kept_are in inl (record { n = first.n; kept_are = omega arith; is = first.is })
one_weaker least kept (content ∷ contents) left few (inr one) = inr (one_weaker least kept contents left few one)

-- a content that is a beginning of the bytes, and what was cut off
pub is_left : (least kept : ℕ) (content bytes : List ℕ) (cut_off : List (List ℕ)) (left : List ℕ) → least ≤ kept
    → least ≤ length content → IsPrefix content bytes → LeavesOne kept (content ∷ cut_off) left
    → LeavesOne least (bytes ∷ cut_off) left
is_left least kept content bytes cut_off left few long part (inl first) =
    let size = ap length first.is ∙ length-take first.n content in
    let kept_are = first.kept_are in
    let begins : IsPrefix left bytes = prefix_of left content bytes
    (subst (λ (l : List ℕ). IsPrefix l content) (sym first.is) (part_of first.n content)) part in inl (record {
      n = length left;
      kept_are = omega (arith, size);
      is = sym (ap (λ (l : List ℕ). take (length left) l) begins.whole ∙ take_at left begins.rest (length left) refl);
    })
is_left least kept content bytes cut_off left few long part (inr one) = inr (one_weaker least kept cut_off left few one)

all_as : (P Q : List ℕ → Type 0) → ((left : List ℕ) → P left → Q left) → (moments : List Moment)
    → AllByRecursion (λ moment. (left : List ℕ) → LeavesAt moment left → P left) moments
    → AllByRecursion (λ moment. (left : List ℕ) → LeavesAt moment left → Q left) moments
all_as P Q h [] all = tt
all_as P Q h (moment ∷ moments) all = ((λ left at. h left (all.0 left at)), all_as P Q h moments all.1)

pub leaves_as : (P Q : List ℕ → Type 0) (a b : FileState) → ((left : List ℕ) → P left → Q left) → LeavesOnly P a b
    → LeavesOnly Q a b
leaves_as P Q a b h x = record {
  more = x.more;
  since = x.since;
  each = all_as P Q h x.more x.each;
  now = λ left at. h left (x.now left at);
}

leaves_then : (P : List ℕ → Type 0) (a b c : FileState) → LeavesOnly P a b → LeavesOnly P b c → LeavesOnly P a c
leaves_then P a b c x y = record {
  more = x.more ++ y.more;
  since = y.since ∙ ap (λ (l : List Moment). l ++ y.more) x.since ∙ append_assoc a.moments x.more y.more;
  each = all_both (λ moment. (left : List ℕ) → LeavesAt moment left → P left) x.more y.more x.each y.each;
  now = y.now;
}

at_as : (b c : FileState) → b ≡ c → (left : List ℕ) → LeavesAt (at_now b) left → LeavesAt (at_now c) left
at_as b c same left at = subst (λ (s : FileState). LeavesAt (at_now s) left) same at

-- both locks were given back, and then what was lent
pub gone_and_rests : (b c d : FileState) → HasLetGo b c → d ≡ record c { has_range_lock = false } → HasLetGo b d
gone_and_rests b c d gone rests =
    let now : HasLetGo b (record c { has_range_lock = false }) = record {
      same = ap (λ (s : FileState). record s { has_range_lock = false }) gone.same;
      free = record { removed = gone.free.removed; no_fewer = gone.free.no_fewer };
    } in subst (HasLetGo b) (sym rests) now

-- where both locks are given back a crash leaves what it might have left before
pub still_left : (b c : FileState) → HasLetGo b c → (left : List ℕ) → LeavesAt (at_now c) left → LeavesAt (at_now b) left
still_left b c gone left at = at_as c _ gone.same left at

pub leaves_and_lets_go : (P : List ℕ → Type 0) (a b c : FileState) → HasLetGo b c → LeavesOnly P a b → LeavesOnly P a c
leaves_and_lets_go P a b c gone x = record {
  more = x.more;
  since = ap (λ (s : FileState). s.moments) gone.same ∙ x.since;
  each = x.each;
  now = λ left at. x.now left (still_left b c gone left at);
}

one_call : (P : List ℕ → Type 0) (a b : FileState) (moment : Moment) → b.moments ≡ a.moments ++ moment ∷ []
    → ((left : List ℕ) → LeavesAt moment left → P left) → ((left : List ℕ) → LeavesAt (at_now b) left → P left)
    → LeavesOnly P a b
one_call P a b moment since here now = record { more = moment ∷ []; since = since; each = (here, tt); now = now }

-- no call, or a keep, at a file that has so many bytes at least and keeps them
module _ (least : ℕ) (a : FileState) (most : List ℕ) (few : least ≤ a.kept) (long : least ≤ length a.bytes)
    (part : IsPrefix a.bytes most) where
  there : (kept : ℕ) → least ≤ kept → (cut_off : List (List ℕ)) → (left : List ℕ)
      → LeavesOne kept (a.bytes ∷ cut_off) left → LeavesOne least (most ∷ cut_off) left
  there kept so_many cut_off left one = is_left least kept a.bytes most cut_off left so_many long part one

  -- what was cut off in this turn too
  among : (left : List ℕ) → LeavesOne least (most ∷ a.bytes ∷ a.cut_off) left → LeavesOne least (most ∷ a.cut_off) left
  among left (inl first) = inl first
  among left (inr one) = there least (omega arith) a.cut_off left one

  pub rests : LeavesOnly (LeavesOne least (most ∷ a.cut_off)) a a
  rests = record { more = []; since = sym (append-nil a.moments); each = tt; now = there a.kept few a.cut_off }

  pub keeps : {T E : Type 0} (r : Result T E) (b : FileState) → OnOk r (KeepsFile a b) → OnErr r (FailsToKeep a b)
      → LeavesOnly (LeavesOne least (most ∷ a.cut_off)) a b
  keeps (Ok value) b x y =
      one_call (LeavesOne least (most ∷ a.cut_off)) a b (at_now a) (ap (λ (s : FileState). s.moments) x)
      (there a.kept few a.cut_off)
      (λ left at. ⊎_elim (λ first. inl first) (λ none. absurd none)
      (there (length a.bytes) long [] left (at_as b _ x left at)))
  keeps (Err cause) b x y =
      let more = y.kept in
      one_call (LeavesOne least (most ∷ a.cut_off)) a b (at_now a) (ap (λ (s : FileState). s.moments) y.same)
      (there a.kept few a.cut_off) (λ left at. there b.kept (omega arith) a.cut_off left (at_as b _ y.same left at))

-- ---- in a turn

module _ (lock : Standing) (began : ℕ) (a : FileState) (at : BeginsWith lock began a) where
  few : lock.synced ≤ a.kept
  few = at.least

  long : lock.synced ≤ length a.bytes
  long = omega (arith, at.least, at.most)

  pub at_rest : (bytes : List ℕ) → IsPrefix a.bytes bytes → LeavesOfTurn lock bytes a a
  at_rest bytes part = rests lock.synced a bytes few long part

  module _ (text : List ℕ) where
    -- a part of it is written
    written : (prefix : List ℕ) → IsPrefix prefix text → (left : List ℕ) → LeavesAt (at_write a prefix) left
        → LeavesOne lock.synced ((a.bytes ++ text) ∷ a.cut_off) left
    written prefix part left one =
        let sum = length-append a.bytes prefix in
        is_left lock.synced a.kept (a.bytes ++ prefix) (a.bytes ++ text) a.cut_off left few (omega (arith, long, sum)) (record {
          rest = part.rest;
          whole = ap (λ (l : List ℕ). a.bytes ++ l) part.whole ∙ sym (append_assoc a.bytes prefix part.rest);
        }) one

    pub after_write : (b : FileState) → HasAppended a b text → LeavesOfTurn lock (a.bytes ++ text) a b
    after_write b x = let all = written text (prefix_itself text) in
        one_call _ a b (at_write a text) (ap (λ (s : FileState). s.moments) x) all
        (λ left one. all left (at_as b _ x left one))

    pub after_failed_write : (b : FileState) → HasNotAppended a b text → LeavesOfTurn lock (a.bytes ++ text) a b
    after_failed_write b x =
        one_call _ a b (at_write a text) (ap (λ (s : FileState). s.moments) x.same) (written text (prefix_itself text))
        (λ left one. written x.prefix x.part left (at_as b _ x.same left one))

    pub after_keep : {T E : Type 0} (r : Result T E) (b c : FileState) → HasAppended a b text → OnOk r (KeepsFile b c)
        → OnErr r (FailsToKeep b c) → LeavesOfTurn lock (a.bytes ++ text) a c
    after_keep r b c x ok err =
        let P : FileState → Type 0 = λ s. LeavesOnly (LeavesOne lock.synced ((a.bytes ++ text) ∷ a.cut_off)) s c in
        let written : FileState = record a {
          bytes = a.bytes ++ text;
          moments = a.moments ++ at_write a text ∷ [];
        } in
        let kept : lock.synced ≤ length (a.bytes ++ text) =
        let sum = length-append a.bytes text in omega (arith, long, sum) in
        let whole = prefix_itself (a.bytes ++ text) in
        leaves_then (LeavesOne lock.synced ((a.bytes ++ text) ∷ a.cut_off)) a b c (after_write b x)
        (subst P (sym x) (keeps lock.synced written (a.bytes ++ text) few kept whole r c
        (subst (λ (s : FileState). OnOk r (KeepsFile s c)) x ok)
        (subst (λ (s : FileState). OnErr r (FailsToKeep s c)) x err)))

  -- once it is cut to its bytes at the lock
  abbrev cut : FileState
  cut = record a {
    bytes = take began a.bytes;
    kept = min a.kept began;
    cut_off = a.bytes ∷ a.cut_off;
    moments = a.moments ++ at_cut a began ∷ [];
  }

  kept_then : lock.synced ≤ min a.kept began
  kept_then = let within = at.within in omega (arith, few)

  long_then : lock.synced ≤ length (take began a.bytes)
  long_then = let within = at.within in let size = length-take began a.bytes in omega (arith, long, size)

  pub after_cut : {T E : Type 0} (r : Result T E) (b : FileState) → OnOk r (HasCut a b began)
      → OnErr r (HasNotCut a b began) → LeavesOfTurn lock a.bytes a b
  after_cut (Ok value) b x y =
      let whole = prefix_itself a.bytes in
      one_call _ a b (at_cut a began) (ap (λ (s : FileState). s.moments) x)
      (there lock.synced a a.bytes few long whole (min a.kept began) kept_then a.cut_off)
      (λ left one. among lock.synced a a.bytes few long whole left (is_left lock.synced (min a.kept began)
      (take began a.bytes) a.bytes cut.cut_off left kept_then long_then (part_of began a.bytes) (at_as b _ x left one)))
  after_cut (Err cause) b x y =
      let whole = prefix_itself a.bytes in
      one_call _ a b (at_cut a began) (ap (λ (s : FileState). s.moments) y.same)
      (there lock.synced a a.bytes few long whole (min a.kept began) kept_then a.cut_off)
      (λ left one. among lock.synced a a.bytes few long whole left
      (there lock.synced a a.bytes few long whole a.kept few cut.cut_off left (at_as b _ y.same left one)))

  pub after_cut_and_keep : {T E U V : Type 0} (r : Result T E) (s : Result U V) (b c : FileState) → is_ok r ≡ true
      → OnOk r (HasCut a b began) → OnOk s (KeepsFile b c) → OnErr s (FailsToKeep b c) → LeavesOfTurn lock a.bytes a c
  after_cut_and_keep (Err cause) s b c is_cut x ok err = cc
  after_cut_and_keep {T} {E} (Ok value) s b c is_cut x ok err =
      let r : Result T E = Ok value in
      let P : FileState → Type 0 = λ f. LeavesOnly (LeavesOne lock.synced (a.bytes ∷ a.cut_off)) f c in
      leaves_then (LeavesOne lock.synced (a.bytes ∷ a.cut_off)) a b c (after_cut r b x tt)
      (subst P (sym x) (leaves_as (LeavesOne lock.synced (a.bytes ∷ cut.cut_off)) _ cut c
      (among lock.synced a a.bytes few long (prefix_itself a.bytes))
      (keeps lock.synced cut a.bytes kept_then long_then (part_of began a.bytes) s c
      (subst (λ (f : FileState). OnOk s (KeepsFile f c)) x ok)
      (subst (λ (f : FileState). OnErr s (FailsToKeep f c)) x err))))

-- ---- at a lock

pub locks : (a b c : FileState) (end : FileEnd) → HasBegun a b end → StaysThere b c
    → LeavesOnly (LeavesOne 0 (b.bytes ∷ b.cut_off)) b c → LeavesOnly (LeavesOne 0 (c.bytes ∷ a.cut_off)) a c
locks a b c end begun stays x =
    let P : List ℕ → List (List ℕ) → Type 0 = λ bytes cut_off. LeavesOnly (LeavesOne 0 (bytes ∷ cut_off)) b c in
    let y = subst (λ (l : List (List ℕ)). P c.bytes l) begun.untouched.cut_off
    (subst (λ (l : List ℕ). P l b.cut_off) (sym (ap (λ (s : FileState). s.bytes) stays)) x) in record {
      more = y.more;
      since = y.since ∙ ap (λ (l : List Moment). l ++ y.more) begun.untouched.moments;
      each = y.each;
      now = y.now;
    }

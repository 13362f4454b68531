use Rattle.std.proofs.Common.{◌≡◌, ◌∙◌, ◌<◌, ℕ, List, length, Some, ap, sym, subst, refl, inl, inr}
use Rattle.std.proofs.lemmas.Option.{slice_get-get_or, slice_get_within}
use Rattle.std.specs.Prelude.{slice_get}
use Rattle.box_worker.specs.Shares.{KeptState, IsAt, IsNone}
use Rattle.box_worker.proofs.thread.handle_copy.Goals as goal

pub index_mut-kept-requires : goal.index_mut-kept-requires
index_mut-kept-requires g c =
    let boxes = c.args.boxes.now.items in
    let at = subst (λ (l : List KeptState). IsAt l c.mailbox.result c.in-Some.place) c.deref.ensures.value c.in-Some.ensures in
    let below : c.in-Some.place < length boxes = slice_get_within boxes c.in-Some.place at.0 at.1 in
    subst (λ (n : ℕ). c.in-Some.place < n) (sym c.args.boxes.now.ok.0) below

pub handle-requires-clause-mine : goal.handle-requires-clause-mine
handle-requires-clause-mine g c =
    let boxes = c.args.boxes.now.items in
    let at = subst (λ (l : List KeptState). IsAt l c.mailbox.result c.in-Some.place) c.deref.ensures.value c.in-Some.ensures in
    let kept = c.index_mut-kept.result.now in
    let is : slice_get boxes c.in-Some.place ≡ Some kept =
    slice_get-get_or boxes c.in-Some.place kept (slice_get_within boxes c.in-Some.place at.0 at.1) ∙ ap Some (sym c.index_mut-kept.ensures.value) in
    let two : Some at.0 ≡ Some kept = sym at.1 ∙ is in
    let same : at.0 ≡ kept = cc in
    ap (λ (k : KeptState). k.number) (sym same) ∙ at.2 ∙ c.mailbox.ensures

pub handle-requires-clause-numbered : goal.handle-requires-clause-numbered
handle-requires-clause-numbered g c =
    let boxes = c.args.boxes.now.items in
    let at = subst (λ (l : List KeptState). IsAt l c.mailbox.result c.in-Some.place) c.deref.ensures.value c.in-Some.ensures in
    let kept = c.index_mut-kept.result.now in
    let is : slice_get boxes c.in-Some.place ≡ Some kept =
    slice_get-get_or boxes c.in-Some.place kept (slice_get_within boxes c.in-Some.place at.0 at.1) ∙ ap Some (sym c.index_mut-kept.ensures.value) in
    c.requires.numbered c.in-Some.place kept is

pub returns-in-Some : goal.returns-in-Some
returns-in-Some g c =
    let boxes = c.args.boxes.now.items in
    let at = subst (λ (l : List KeptState). IsAt l c.mailbox.result c.in-Some.place) c.deref.ensures.value c.in-Some.ensures in
    let kept = c.index_mut-kept.result.now in
    let is : slice_get boxes c.in-Some.place ≡ Some kept =
    slice_get-get_or boxes c.in-Some.place kept (slice_get_within boxes c.in-Some.place at.0 at.1) ∙ ap Some (sym c.index_mut-kept.ensures.value) in
    let two : Some at.0 ≡ Some kept = sym at.1 ∙ is in
    let same : at.0 ≡ kept = cc in
    inl (record {
      at = c.in-Some.place;
      kept = kept;
      is = is;
      mine = ap (λ (k : KeptState). k.number) (sym same) ∙ at.2 ∙ c.mailbox.ensures;
      next = c.handle.new.self;
      handles = c.handle.ensures;
      others = refl;
    })

pub returns-in-None : goal.returns-in-None
returns-in-None g c =
    let N : List KeptState → ℕ → Type 0 = λ l n. IsNone l n in
    inr (subst (λ (z : List KeptState × ℕ). N z.0 z.1) (λ i. (c.deref.ensures.value i, c.mailbox.ensures i)) c.in-None.ensures, refl, refl)

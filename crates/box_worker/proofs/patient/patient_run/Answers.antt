use Rattle.std.proofs.Common.{◌≡◌, ◌∙◌, ◌<◌, ◌||◌, ℕ, suc, List, [], ◌∷◌, length, take, drop, true, false, Option, Some, None, IsSome, ap, sym, subst, refl, arith, length-append}
use Rattle.std.specs.Prelude.{slice_get, vec_capacity}
use Rattle.std.specs.List.{AllByRecursion}
use Rattle.std.proofs.lemmas.Option.{slice_get-get_or}
use Rattle.mail_world.specs.declared.Note.{Note}
use Rattle.mail_world.specs.declared.Slip.{Slip}
use Rattle.mail_world.specs.Site.{Site}
use Rattle.box_worker.specs.Turned.{Manner, manner_of}
use Rattle.mail_post.specs.Channel.{Sender, Inbox}
use Rattle.mail_post.specs.InTime.{Ends}
use Rattle.mail_post.specs.Offered.{any_gone}
use Rattle.mail_post.specs.Parcels.{of}
use Rattle.mail_post.specs.declared.channel.Gone.{Gone}
use Rattle.box_worker.specs.Worked.{is_lost}
use Rattle.box_worker.specs.Shares.{for_box, numbers_of, KeepsTimes, KeptState, AreInPlace, AreOfThread, GaveForItsOwn}
use Rattle.box_worker.specs.PutOff.{ArePatient, IsNextOf, HaveWorkedPatiently}
use Rattle.box_worker.proofs.Many.{still_in_place, still_of_thread, still_timed, still_as_many, timed_at_first}
use Rattle.box_worker.proofs.Patience.{all_take_turns, all_put_off, all_wait_still, all_patient_yet, all_done, sound_before, parts_at, all_rest, all_more, first_moments, no_some, fits_after, must_be, sooner, times_kept, moments_kept}
use Rattle.box_worker.proofs.OwnSlips.{none_given, still_its_own, numbers_still}
use Rattle.box_worker.proofs.Shares.{keeps_took}
use Rattle.std.specs.Option.{IfNone}
use Rattle.box_worker.proofs.patient.patient_run.Goals as goal

pub loop-init : goal.loop-init
loop-init g c =
    let slips = c.args.slips.items in
    let inbox = c.args.receiver in
    let boxes = c.args.boxes.items in
    let room = vec_capacity c.args.waits in
    let is = sym c.new-slips.ensures in
    let none = c.requires.none in
    let old : Ends Slip Note = record { senders = slips; inbox = inbox } in
    record {
      channel = refl;
      lanes = refl;
      capacity = refl;
      room = refl;
      few = let e = ap length none in omega arith;
      gone = c.requires.open;
      as_many = subst (λ (l : List (Sender Slip)). length l ≡ inbox.lanes) is c.requires.lanes;
      of_lanes = subst (λ (l : List Note). AllByRecursion (λ (note : Note). note.txn.lane < inbox.lanes) l) (sym none) tt;
      times = subst (λ (l : List (Sender Slip)). KeepsTimes l inbox) is (timed_at_first slips inbox c.requires.fresh);
      moments = first_moments slips inbox c.requires.fresh;
      places = c.requires.places;
      numbered = subst (λ (l : List (Sender Slip)). AreOfThread boxes l) is c.requires.numbered;
      numbers = refl;
      only = subst (λ (l : List (Sender Slip)). GaveForItsOwn boxes l) is (none_given slips inbox boxes c.requires.fresh);
      working = λ sound starts new.
          let P : List (Sender Slip) → List Note → Type 0 = λ l w. ArePatient room c.args.site.now (manner_of g.S.Spool.MayFind g.S.Spool.MayRefuse) starts old
          (record { senders = l; inbox = inbox }) w boxes in
          subst (λ (z : List (Sender Slip) × List Note). P z.0 z.1) (λ i. (is i, sym none i))
          (all_patient_yet room c.args.site.now (manner_of g.S.Spool.MayFind g.S.Spool.MayRefuse) starts slips inbox boxes c.requires.fresh new);
    }

pub handle_copy-requires-clause-places : goal.handle_copy-requires-clause-places
handle_copy-requires-clause-places g c = subst (λ (l : List KeptState). AreInPlace l) (sym c.next_turn.ensures.same) c.loop.invariant.places

pub handle_copy-requires-clause-numbered : goal.handle_copy-requires-clause-numbered
handle_copy-requires-clause-numbered g c =
    subst (λ (l : List KeptState). AreOfThread l c.loop.slips) (sym c.next_turn.ensures.same) c.loop.invariant.numbered

pub loop-preserved-in-Some-next_turn : goal.loop-preserved-in-Some-next_turn
loop-preserved-in-Some-next_turn g c =
    let site : Site = c.args.site.now in
    let manner : Manner = manner_of g.S.Spool.MayFind g.S.Spool.MayRefuse in
    let inv = c.loop.invariant in
    let inbox = c.loop.receiver in
    let senders = c.loop.slips in
    let next = c.handle_copy.new.slips in
    let boxes = c.next_turn.new.boxes.items in
    let after = c.handle_copy.new.boxes.items in
    let same = c.next_turn.ensures.same in
    let waits = c.loop.waits.items in
    let rest = c.remove-post.new.self.items in
    let note = c.remove-post.result in
    let place = c.in-Some-next_turn.place in
    let room = vec_capacity c.args.waits in
    let all : c.deref.result.now ≡ waits = c.deref.ensures.value in
    let below : place < length waits = subst (λ (l : List Note). place < length l) all c.in-Some-next_turn.ensures.within in
    let is : slice_get waits place ≡ Some note = slice_get-get_or waits place note below ∙ ap Some (sym c.remove-post.ensures.value) in
    let first : of for_box note.mailbox (take place waits) ≡ [] =
    subst (λ (l : List Note). slice_get l place ≡ Some note → of for_box note.mailbox (take place l) ≡ []) all
    (c.in-Some-next_turn.ensures.next note) is in
    let parts = parts_at waits place note is in
    let y : IsNextOf waits note rest = record {
      front = take place waits;
      back = drop (suc place) waits;
      was = parts;
      is = c.remove-post.ensures.items;
      first = first;
    } in
    let h = c.handle_copy.ensures in
    let places = subst (λ (l : List KeptState). AreInPlace l) (sym same) inv.places in
    let numbered = subst (λ (l : List KeptState). AreOfThread l senders) (sym same) inv.numbered in
    let only = subst (λ (l : List KeptState). GaveForItsOwn l senders) (sym same) inv.only in
    let old : Ends Slip Note = record { senders = c.args.slips.items; inbox = c.args.receiver } in
    let long = ap length parts ∙ length-append (take place waits) (note ∷ drop (suc place) waits) in
    let less = ap length c.remove-post.ensures.items ∙ length-append (take place waits) (drop (suc place) waits) in
    let few = inv.few in
    record {
      channel = inv.channel;
      lanes = inv.lanes;
      capacity = inv.capacity;
      room = c.remove-post.ensures.capacity ∙ inv.room;
      few = omega arith;
      gone = inv.gone;
      as_many = still_as_many site manner note inbox senders next boxes after h ∙ inv.as_many;
      of_lanes = all_rest (λ (n : Note). n.txn.lane < inbox.lanes) waits note rest y inv.of_lanes;
      times = still_timed site manner note inbox senders next boxes after inv.times h;
      moments = inv.moments;
      places = still_in_place site manner note inbox senders next boxes after places h;
      numbered = still_of_thread site manner note inbox senders next boxes after numbered h;
      numbers = numbers_still site manner note inbox senders next boxes after h ∙ ap numbers_of same ∙ inv.numbers;
      only = still_its_own site manner note inbox senders next boxes after only h;
      working = λ sound starts new.
          let was = sound_before site manner note inbox senders next boxes after h sound in
          let P : List KeptState → Type 0 = λ l. ArePatient room site manner starts old (record { senders = senders; inbox = inbox }) waits l in
          all_take_turns room site manner starts old senders next inbox boxes note waits rest inv.times inv.moments y
          (subst P (sym same) (inv.working was starts new)) after places h sound;
    }

pub push_reserved-requires : goal.push_reserved-requires
push_reserved-requires g c =
    let inv = c.loop.invariant in
    let waits = c.loop.waits.items in
    let all : c.deref.result.now ≡ waits = c.deref.ensures.value in
    let none : c.next_turn.result ≡ None = no_some c.next_turn.result c.in_default.not-Some in
    let empty : c.must_go_on-must.result ≡ true → waits ≡ [] =
    λ e. sym all ∙ subst (λ (o : Option ℕ). IfNone o (c.deref.result.now ≡ [])) none (c.next_turn.ensures.must e) in
    let some = c.requires.some in
    let count = c.len.ensures in
    let room = c.capacity-room.ensures in
    let there : 0 < c.capacity-room.result = omega arith in
    let same = inv.room in
    let low : c.len.result < c.capacity-room.result =
    fits_after c.must_go_on-must.result c.len.result c.capacity-room.result waits (count ∙ c.loop.waits.ok.0) there c.must_go_on-must.ensures.room empty in
    omega arith

pub loop-preserved-in-Some-Ok : goal.loop-preserved-in-Some-Ok
loop-preserved-in-Some-Ok g c =
    let site : Site = c.args.site.now in
    let manner : Manner = manner_of g.S.Spool.MayFind g.S.Spool.MayRefuse in
    let inv = c.loop.invariant in
    let was = c.loop.receiver in
    let now = c.next_copy.new.receiver in
    let senders = c.loop.slips in
    let note = c.in-Some-Ok.post in
    let waits = c.loop.waits.items in
    let capacity = vec_capacity c.args.waits in
    let n = rw c.in-Some-Ok.field-0-is at c.in-Some-Ok.ensures.next in
    let same = c.next_copy.ensures.same in
    let p = c.push_reserved.ensures in
    let boxes = c.next_turn.ensures.same in
    let old : Ends Slip Note = record { senders = c.args.slips.items; inbox = c.args.receiver } in
    let open_still : c.loop.ended ≡ None = no_some c.loop.ended c.in_default-ended.not-Some in
    let gone : now.gone ≡ was.gone = n.0 ∙ sym (inv.gone ∙ open_still) in
    let all : c.deref.result.now ≡ waits = c.deref.ensures.value in
    let none : c.next_turn.result ≡ None = no_some c.next_turn.result c.in_default.not-Some in
    let empty : c.must_go_on-must.result ≡ true → waits ≡ [] =
    λ e. sym all ∙ subst (λ (o : Option ℕ). IfNone o (c.deref.result.now ≡ [])) none (c.next_turn.ensures.must e) in
    let some = c.requires.some in
    let count = c.len.ensures ∙ c.loop.waits.ok.0 in
    let room = c.capacity-room.ensures in
    let there : 0 < c.capacity-room.result = omega arith in
    let low : c.len.result < c.capacity-room.result =
    fits_after c.must_go_on-must.result c.len.result c.capacity-room.result waits count there c.must_go_on-must.ensures.room empty in
    let fits : length waits < capacity = omega arith in
    let long = ap length p.items ∙ length-append waits (note ∷ []) in
    let L : ℕ → Note → Type 0 = λ m x. x.txn.lane < m in
    let before : AllByRecursion (L now.lanes) waits = subst (λ (m : ℕ). AllByRecursion (L m) waits) (sym same.1) inv.of_lanes in
    let here : L now.lanes note = subst (λ (m : ℕ). L m note) (sym same.1) n.2 in
    record {
      channel = same.0 ∙ inv.channel;
      lanes = same.1 ∙ inv.lanes;
      capacity = same.2 ∙ inv.capacity;
      room = p.capacity ∙ inv.room;
      few = omega arith;
      gone = n.0 ∙ sym open_still;
      as_many = inv.as_many ∙ sym same.1;
      of_lanes = subst (λ (l : List Note). AllByRecursion (L now.lanes) l) (sym p.items) (all_more (L now.lanes) waits note before here);
      times = keeps_took senders was now note inv.times n.1 (sooner senders was now n.3);
      moments = n.3.timed;
      places = subst (λ (l : List KeptState). AreInPlace l) (sym boxes) inv.places;
      numbered = subst (λ (l : List KeptState). AreOfThread l senders) (sym boxes) inv.numbered;
      numbers = ap numbers_of boxes ∙ inv.numbers;
      only = subst (λ (l : List KeptState). GaveForItsOwn l senders) (sym boxes) inv.only;
      working = λ sound starts new.
          let P : List Note × List KeptState → Type 0 = λ z. ArePatient capacity site manner starts old (record { senders = senders; inbox = now }) z.0 z.1 in
          subst P (λ i. (sym p.items i, sym boxes i))
          (all_put_off capacity site manner starts old senders was now c.loop.boxes.items note waits inv.times n.1 n.3 same.0 same.2 same.1 gone fits
          (inv.working sound starts new));
    }

pub loop-preserved-in-Some-Err : goal.loop-preserved-in-Some-Err
loop-preserved-in-Some-Err g c =
    let inv = c.loop.invariant in
    let was = c.loop.receiver in
    let now = c.next_copy.new.receiver in
    let senders = c.loop.slips in
    let waits = c.loop.waits.items in
    let n = rw c.in-Some-Err.field-0-is at c.in-Some-Err.ensures.next in
    let same = c.next_copy.ensures.same in
    let boxes = c.next_turn.ensures.same in
    let old : Ends Slip Note = record { senders = c.args.slips.items; inbox = c.args.receiver } in
    record {
      channel = same.0 ∙ inv.channel;
      lanes = same.1 ∙ inv.lanes;
      capacity = same.2 ∙ inv.capacity;
      room = inv.room;
      few = inv.few;
      gone = n.0;
      as_many = inv.as_many ∙ sym same.1;
      of_lanes = subst (λ (m : ℕ). AllByRecursion (λ (x : Note). x.txn.lane < m) waits) (sym same.1) inv.of_lanes;
      times = times_kept senders was now n.1 n.3 inv.times;
      moments = moments_kept was now n.3 inv.moments;
      places = subst (λ (l : List KeptState). AreInPlace l) (sym boxes) inv.places;
      numbered = subst (λ (l : List KeptState). AreOfThread l senders) (sym boxes) inv.numbered;
      numbers = ap numbers_of boxes ∙ inv.numbers;
      only = subst (λ (l : List KeptState). GaveForItsOwn l senders) (sym boxes) inv.only;
      working = λ sound starts new.
          let P : List KeptState → Type 0 = λ l. ArePatient (vec_capacity c.args.waits) c.args.site.now (manner_of g.S.Spool.MayFind g.S.Spool.MayRefuse) starts old
          (record { senders = senders; inbox = now }) waits l in
          subst P (sym boxes) (all_wait_still (vec_capacity c.args.waits) c.args.site.now (manner_of g.S.Spool.MayFind g.S.Spool.MayRefuse) starts old senders was now waits c.loop.boxes.items
          same.0 same.2 same.1 n.1 n.3 (inv.working sound starts new));
    }

pub loop-preserved : goal.loop-preserved
loop-preserved g c =
    let inv = c.loop.invariant in
    let was = c.loop.receiver in
    let now = c.next_copy.new.receiver in
    let senders = c.loop.slips in
    let waits = c.loop.waits.items in
    let n = c.in-None-next_copy.ensures.next in
    let same = c.next_copy.ensures.same in
    let boxes = c.pause.ensures ∙ c.next_turn.ensures.same in
    let open_still : c.loop.ended ≡ None = no_some c.loop.ended c.in_default-ended.not-Some in
    let old : Ends Slip Note = record { senders = c.args.slips.items; inbox = c.args.receiver } in
    record {
      channel = same.0 ∙ inv.channel;
      lanes = same.1 ∙ inv.lanes;
      capacity = same.2 ∙ inv.capacity;
      room = inv.room;
      few = inv.few;
      gone = n.0 ∙ sym open_still;
      as_many = inv.as_many ∙ sym same.1;
      of_lanes = subst (λ (m : ℕ). AllByRecursion (λ (x : Note). x.txn.lane < m) waits) (sym same.1) inv.of_lanes;
      times = times_kept senders was now n.1 n.2 inv.times;
      moments = moments_kept was now n.2 inv.moments;
      places = subst (λ (l : List KeptState). AreInPlace l) (sym boxes) inv.places;
      numbered = subst (λ (l : List KeptState). AreOfThread l senders) (sym boxes) inv.numbered;
      numbers = ap numbers_of boxes ∙ inv.numbers;
      only = subst (λ (l : List KeptState). GaveForItsOwn l senders) (sym boxes) inv.only;
      working = λ sound starts new.
          let P : List KeptState → Type 0 = λ l. ArePatient (vec_capacity c.args.waits) c.args.site.now (manner_of g.S.Spool.MayFind g.S.Spool.MayRefuse) starts old
          (record { senders = senders; inbox = now }) waits l in
          subst P (sym boxes) (all_wait_still (vec_capacity c.args.waits) c.args.site.now (manner_of g.S.Spool.MayFind g.S.Spool.MayRefuse) starts old senders was now waits c.loop.boxes.items
          same.0 same.2 same.1 n.1 n.2 (inv.working sound starts new));
    }

pub returns-in-Some-ended-clause-lost : goal.returns-in-Some-ended-clause-lost
returns-in-Some-ended-clause-lost g c =
    let inv = c.loop.invariant in
    let r = c.report.ensures in
    let gone : c.report.result.receiver.gone ≡ Some c.in-Some-ended.why = ap (λ (i : Inbox Note). i.gone) r.same.0 ∙ inv.gone ∙ c.in-Some-ended.is in
    r.lost ∙ (λ i. any_gone (sym r.same.1 i) || (c.is_lost.ensures ∙ ap (λ (w : Option Gone). is_lost w) (sym gone)) i)

pub returns-in-Some-ended-clause-worked : goal.returns-in-Some-ended-clause-worked
returns-in-Some-ended-clause-worked g c sound starts new =
    let inv = c.loop.invariant in
    let r = c.report.ensures in
    let room = vec_capacity c.args.waits in
    let inbox = c.loop.receiver in
    let senders = c.loop.slips in
    let waits = c.loop.waits.items in
    let all : c.deref.result.now ≡ waits = c.deref.ensures.value in
    let none : c.next_turn.result ≡ None = no_some c.next_turn.result c.in_default.not-Some in
    let must : c.must_go_on-must.result ≡ true = must_be c.must_go_on-must.result c.loop.ended c.in-Some-ended.why c.must_go_on-must.ensures.ended c.in-Some-ended.is in
    let empty : waits ≡ [] = sym all ∙ subst (λ (o : Option ℕ). IfNone o (c.deref.result.now ≡ [])) none (c.next_turn.ensures.must must) in
    let old : Ends Slip Note = record { senders = c.args.slips.items; inbox = c.args.receiver } in
    let gone : inbox.gone ≡ Some c.in-Some-ended.why = inv.gone ∙ c.in-Some-ended.is in
    let none_gone : any_gone senders ≡ false = ap any_gone (sym r.same.1) ∙ sound in
    let P : List Note × List KeptState → Type 0 = λ z. ArePatient room c.args.site.now (manner_of g.S.Spool.MayFind g.S.Spool.MayRefuse) starts old (record { senders = senders; inbox = inbox }) z.0 z.1 in
    let patient = subst P (λ i. (empty i, sym c.next_turn.ensures.same i)) (inv.working none_gone starts new) in
    let lost = c.report.result.lost in
    let found : lost ≡ (any_gone senders || is_lost inbox.gone) =
    r.lost ∙ (λ i. any_gone senders || (c.is_lost.ensures ∙ ap (λ (w : Option Gone). is_lost w) (sym gone)) i) in
    let done = all_done room c.args.site.now (manner_of g.S.Spool.MayFind g.S.Spool.MayRefuse) starts old senders inbox c.next_turn.new.boxes.items patient inv.channel inv.lanes inv.capacity
    (subst (λ (w : Option Gone). IsSome w) (sym gone) refl) lost found in
    let Q : Inbox Note × List (Sender Slip) × List KeptState → Type 0 = λ z. HaveWorkedPatiently room c.args.site.now (manner_of g.S.Spool.MayFind g.S.Spool.MayRefuse) starts old
    (record { senders = z.1; inbox = z.0 }) lost z.2 in
    subst Q (λ i. (sym r.same.0 i, sym r.same.1 i, sym r.same.2 i)) done

pub returns-in-Some-ended-clause-numbered : goal.returns-in-Some-ended-clause-numbered
returns-in-Some-ended-clause-numbered g c =
    let back = c.report.ensures.same in
    let is : c.report.result.boxes.items ≡ c.loop.boxes.items = back.2 ∙ c.next_turn.ensures.same in
    let P : List (Sender Slip) → List KeptState → Type 0 = λ l k. AreOfThread k l in
    subst (λ (z : List (Sender Slip) × List KeptState). P z.0 z.1) (λ i. (sym back.1 i, sym is i)) c.loop.invariant.numbered

pub returns-in-Some-ended-clause-only : goal.returns-in-Some-ended-clause-only
returns-in-Some-ended-clause-only g c =
    let back = c.report.ensures.same in
    let is : c.report.result.boxes.items ≡ c.loop.boxes.items = back.2 ∙ c.next_turn.ensures.same in
    let P : List (Sender Slip) → List KeptState → Type 0 = λ l k. GaveForItsOwn k l in
    subst (λ (z : List (Sender Slip) × List KeptState). P z.0 z.1) (λ i. (sym back.1 i, sym is i)) c.loop.invariant.only

pub returns-in-Some-ended-clause-numbers : goal.returns-in-Some-ended-clause-numbers
returns-in-Some-ended-clause-numbers g c =
    let is : c.report.result.boxes.items ≡ c.loop.boxes.items = c.report.ensures.same.2 ∙ c.next_turn.ensures.same in
    ap numbers_of is ∙ c.loop.invariant.numbers

-- One more copy, or one more slip, between a lane and the channels.
use Rattle.std.proofs.Common.{◌≡◌, ◌⊎◌, ℕ, List, [], ◌∷◌, ◌++◌, Bool, true, false, ◌||◌, cond, inl, inr, refl, ap, sym, ◌∙◌, subst, append_assoc, append-nil}
use Rattle.std.specs.Prelude.{◌==◌, map, is_some}
use Rattle.std.specs.List.{AllByRecursion}
use Rattle.std.proofs.lemmas.Bool.{eq-eqb}
use Rattle.std.proofs.lemmas.List.Elements.{filter-append}
use Rattle.mail_world.specs.declared.Txn.{Txn}
use Rattle.mail_world.specs.declared.Note.{Note}
use Rattle.mail_world.specs.declared.Slip.{Slip}
use Rattle.mail_world.specs.Slips.{times_named, Gather, txn_of}
use Rattle.mail_world.proofs.Heard.{all_more}
use Rattle.mail_world.proofs.Merged.{merged_prefix, merged_own}
use Rattle.mail_world.proofs.OneLine.{other_byte}
use Rattle.mail_runs.specs.Deeds.{Deed, Gave, Heard}
use Rattle.mail_runs.specs.Timed.{whats}
use Rattle.mail_post.specs.Channel.{Sender, Inbox, taken, IsTimed, HasSameTimes}
use Rattle.mail_post.specs.Gathering.{HasGathered}
use Rattle.mail_post.specs.Offered.{any_gone, IsOffered}
use Rattle.mail_post.specs.WorkerThreads.{worker_thread}
use Rattle.mail_post.proofs.Offered.{OwesOneMore, sent_more, sent_no_more, gone_now, gone_as_before}
use Rattle.lmtp_lane.proofs.Doing.{lane_clock, done_offered, done_gone, done_heard, done_none}
use Rattle.lmtp_lane.specs.LaneExchange.{LaneEnds, Sending, found_gone, slips_gone, IsAmong, for_thread, own_slip_of, IsOwnSlip, Episode, joined, HasExchanged}
use Rattle.lmtp_lane.specs.LaneExchange.{HasExchangedBy, IsTimely, IsEpisode, IsUnderWay, IsOffering, GathersOne, Continues}
use Rattle.lmtp_lane.proofs.Turns.{gave_last, heard_last}

-- one more at the end of a list that is merged in time
timely_prefix : (before came own heard : List Slip) (x : Slip) → IsTimely before came own heard → IsTimely before (came ++ x ∷ []) own (heard ++ x ∷ [])
timely_prefix before came own [] x m = inl ([], ap (λ l. l ++ x ∷ []) m.0, (refl, m.1))
timely_prefix before came own (y ∷ heard) x m = elim m [
  | inl first ↦ inl (first.0 ++ x ∷ [], ap (λ l. l ++ x ∷ []) first.1, timely_prefix (before ++ y ∷ []) first.0 own heard x first.2)
  | inr mine ↦ inr (mine.0, mine.1, mine.2, timely_prefix (before ++ y ∷ []) came mine.0 heard x mine.3)
]

timely_own : (before came own heard : List Slip) (x : Slip) → times_named x.txn x.place (before ++ heard) ≡ 0 → IsTimely before came own heard
    → IsTimely before came (own ++ x ∷ []) (heard ++ x ∷ [])
timely_own before came own [] x none m =
    let P : List Slip → Type 0 = λ l. times_named x.txn x.place l ≡ 0 in
    inr ([], ap (λ l. l ++ x ∷ []) m.1, subst P (append-nil before) none, (m.0, refl))
timely_own before came own (y ∷ heard) x none m =
    let P : List Slip → Type 0 = λ l. times_named x.txn x.place l ≡ 0 in
    let rest : times_named x.txn x.place ((before ++ y ∷ []) ++ heard) ≡ 0 = subst P (sym (append_assoc before (y ∷ []) heard)) none in
    elim m [
      | inl first ↦ inl (first.0, first.1, timely_own (before ++ y ∷ []) first.0 own heard x rest first.2)
      | inr mine ↦ inr (mine.0 ++ x ∷ [], ap (λ l. l ++ x ∷ []) mine.1, mine.2, timely_own (before ++ y ∷ []) came mine.0 heard x rest mine.3)
    ]

-- an episode with one more slip at its end: the lane's own, or one that came
abbrev pub with_own : Episode → Slip → Episode
with_own e slip = record { came = e.came; own = e.own ++ slip ∷ []; heard = e.heard ++ slip ∷ [] }

abbrev pub with_came : Episode → Slip → Episode
with_came e slip = record { came = e.came ++ slip ∷ []; own = e.own; heard = e.heard ++ slip ∷ [] }

episode_own : (txn : Txn) (e : Episode) (x : Slip) → x.txn ≡ txn → times_named x.txn x.place e.heard ≡ 0 → IsEpisode txn e → IsEpisode txn (with_own e x)
episode_own txn e x same none is = record {
  timely = timely_own [] e.came e.own e.heard x none is.timely;
  named = all_more (λ (slip : Slip). slip.txn ≡ txn) e.own x is.named same;
}

episode_came : (txn : Txn) (e : Episode) (x : Slip) → IsEpisode txn e → IsEpisode txn (with_came e x)
episode_came txn e x is = record { timely = timely_prefix [] e.came e.own e.heard x is.timely; named = is.named }

abbrev episode : List Slip → List Slip → List Slip → Episode
episode came own heard = record { came = came; own = own; heard = heard }

joined_own : (a b : Episode) (slip : Slip) → with_own (joined a b) slip ≡ joined a (with_own b slip)
joined_own a b slip =
    ap (λ l. episode (a.came ++ b.came) l ((a.heard ++ b.heard) ++ slip ∷ [])) (append_assoc a.own b.own (slip ∷ []))
    ∙ ap (λ l. episode (a.came ++ b.came) (a.own ++ (b.own ++ slip ∷ [])) l) (append_assoc a.heard b.heard (slip ∷ []))

joined_came : (a b : Episode) (slip : Slip) → with_came (joined a b) slip ≡ joined a (with_came b slip)
joined_came a b slip =
    ap (λ l. episode l (a.own ++ b.own) ((a.heard ++ b.heard) ++ slip ∷ [])) (append_assoc a.came b.came (slip ∷ []))
    ∙ ap (λ l. episode (a.came ++ (b.came ++ slip ∷ [])) (a.own ++ b.own) l) (append_assoc a.heard b.heard (slip ∷ []))

abbrev pub no_episode : Episode
no_episode = record { came = []; own = []; heard = [] }

pub joined_none : (a : Episode) → joined a no_episode ≡ a
joined_none a =
    ap (λ l. episode l (a.own ++ []) (a.heard ++ [])) (append-nil a.came)
    ∙ ap (λ l. episode a.came l (a.heard ++ [])) (append-nil a.own)
    ∙ ap (λ l. episode a.came a.own l) (append-nil a.heard)

among_more : (note x : Note) (xs : List Note) → IsAmong note xs → IsAmong note (xs ++ x ∷ [])
among_more note x [] h = absurd h
among_more note x (y ∷ xs) h = elim h [
  | inl here ↦ inl here
  | inr there ↦ inr (among_more note x xs there)
]

among_last : (x : Note) (xs : List Note) → IsAmong x (xs ++ x ∷ [])
among_last x [] = inl refl
among_last x (y ∷ xs) = inr (among_last x xs)

-- slips of the lane's own are so of more copies
made_weaker : (lane : ℕ) (notes left notes' left' : List Note) (lost lost' : Bool)
    → ((note : Note) → IsAmong note left ⊎ (IsAmong note notes × (lost ≡ true)) → IsAmong note left' ⊎ (IsAmong note notes' × (lost' ≡ true)))
    → (own : List Slip) → AllByRecursion (IsOwnSlip lane notes left lost) own → AllByRecursion (IsOwnSlip lane notes' left' lost') own
made_weaker lane notes left notes' left' lost lost' f [] h = tt
made_weaker lane notes left notes' left' lost lost' f (slip ∷ own) h =
    (record { note = h.0.note; owed = f h.0.note h.0.owed; made = h.0.made }, made_weaker lane notes left notes' left' lost lost' f own h.1)

-- no copy is among none
among_none : (note : Note) (left : List Note) → left ≡ [] → IsAmong note left → ⊥
among_none note left none h = subst (IsAmong note) none h

or_true : (b : Bool) → (b || true) ≡ true
or_true true = refl
or_true false = refl

-- the copies for each worker thread, with one more
owed_more : (notes : List Note) (note : Note)
    → OwesOneMore (λ t. for_thread t notes) (λ t. for_thread t (notes ++ note ∷ [])) (worker_thread note.mailbox) note
owed_more notes note =
    let at : ℕ = worker_thread note.mailbox in
    let owed : (t : ℕ) → for_thread t (notes ++ note ∷ []) ≡ for_thread t notes ++ cond (at == t) (note ∷ []) [] =
    λ t. filter-append (λ (x : Note). worker_thread x.mailbox == t) notes (note ∷ []) in
    record {
      here = owed at ∙ ap (λ b. for_thread at notes ++ cond b (note ∷ []) []) (eq-eqb at at refl);
      other = λ t away. owed t ∙ ap (λ b. for_thread t notes ++ cond b (note ∷ []) []) (other_byte at t (λ e. away (sym e)))
          ∙ append-nil (for_thread t notes);
    }

-- these ends with other senders, or another channel of slips
abbrev pub with_senders : LaneEnds → List (Sender Note) → LaneEnds
with_senders ends senders = record { lane = ends.lane; senders = senders; inbox = ends.inbox; gone = ends.gone }

abbrev pub with_inbox : LaneEnds → Inbox Slip → LaneEnds
with_inbox ends inbox = record { lane = ends.lane; senders = ends.senders; inbox = inbox; gone = ends.gone }

abbrev for_threads : List Note → ℕ → List Note
for_threads all t = for_thread t all

module _ (notes : List Note) (e : Episode) (old now : LaneEnds) (x : HasExchanged notes e old now) where
  -- one more copy that its channel accepted
  pub offered_more : (note : Note) (next : List (Sender Note)) → any_gone now.senders ≡ false
      → IsOffered (lane_clock now) (worker_thread note.mailbox) (λ sender. note) true now.senders next
      → (y : HasExchanged (notes ++ note ∷ []) e old (with_senders now next)) × (whats y.done.deeds ≡ whats x.done.deeds ++ Gave note ∷ [])
  offered_more note next none o =
      let empty : x.left ≡ [] = x.all none in
      let done = done_offered x.accepted e.came old now note next x.done o in
      let same : any_gone next ≡ any_gone now.senders = gone_as_before (lane_clock now) (worker_thread note.mailbox) (λ sender. note) now.senders next o in (
        record {
          lane = x.lane;
          accepted = x.accepted ++ note ∷ [];
          left = [];
          first = ap (λ l. l ++ note ∷ []) (x.first ∙ ap (λ l. x.accepted ++ l) empty ∙ append-nil x.accepted) ∙ sym (append-nil (x.accepted ++ note ∷ []));
          offered = sent_more (lane_clock now) (worker_thread note.mailbox) (λ sender. note) old.senders now.senders next (for_threads x.accepted)
              (for_threads (x.accepted ++ note ∷ [])) note x.offered o refl (owed_more x.accepted note);
          all = λ sound. refl;
          whole = λ sound. same ∙ x.whole sound;
          tells = λ fresh. x.tells fresh ∙ ap (λ b. b || slips_gone now) (sym same);
          channel = x.channel;
          lanes = x.lanes;
          took = x.took;
          merged = x.merged;
          made = made_weaker old.lane notes x.left (notes ++ note ∷ []) [] (slips_gone now) (slips_gone now)
              (λ n h. elim h [
                | inl l ↦ absurd (among_none n x.left empty l)
                | inr a ↦ inr (among_more n note notes a.0, a.1)
              ]) e.own x.made;
          sound = x.sound;
          done = done.0;
        },
        done.1,
      )

  left_made : (note : Note) → AllByRecursion (IsOwnSlip old.lane (notes ++ note ∷ []) (x.left ++ note ∷ []) (slips_gone now)) e.own
  left_made note = made_weaker old.lane notes x.left (notes ++ note ∷ []) (x.left ++ note ∷ []) (slips_gone now) (slips_gone now)
      (λ n h. elim h [
        | inl l ↦ inl (among_more n note x.left l)
        | inr a ↦ inr (among_more n note notes a.0, a.1)
      ]) e.own x.made

  left_first : (note : Note) → notes ++ note ∷ [] ≡ x.accepted ++ (x.left ++ note ∷ [])
  left_first note = ap (λ l. l ++ note ∷ []) x.first ∙ append_assoc x.accepted x.left (note ∷ [])

  -- one more copy that was handed back
  pub gone_keeps_time : (note : Note) (next : List (Sender Note)) → IsOffered (lane_clock now) (worker_thread note.mailbox) (λ sender. note) false now.senders next
      → (y : HasExchanged (notes ++ note ∷ []) e old (found_gone (with_senders now next))) × IsAmong note y.left
  gone_keeps_time note next o =
      let thread_gone : any_gone next ≡ true = gone_now (lane_clock now) (worker_thread note.mailbox) (λ sender. note) now.senders next o in (
        record {
          lane = x.lane;
          accepted = x.accepted;
          left = x.left ++ note ∷ [];
          first = left_first note;
          offered = sent_no_more (lane_clock now) (worker_thread note.mailbox) (λ sender. note) old.senders now.senders next (for_threads x.accepted) x.offered o;
          all = λ none. let bad : true ≡ false = sym thread_gone ∙ none in cc;
          whole = λ none. cc;
          tells = λ fresh. sym (ap (λ b. b || slips_gone now) thread_gone);
          channel = x.channel;
          lanes = x.lanes;
          took = x.took;
          merged = x.merged;
          made = left_made note;
          sound = λ none. cc;
          done = done_gone x.accepted e.came old now note next x.done o;
        },
        among_last note x.left,
      )

  -- one more copy that wasn't offered, since one was handed back before
  pub unoffered_more : (note : Note) → any_gone now.senders ≡ true → (y : HasExchanged (notes ++ note ∷ []) e old now) × IsAmong note y.left
  unoffered_more note thread_gone = (
    record {
      lane = x.lane;
      accepted = x.accepted;
      left = x.left ++ note ∷ [];
      first = left_first note;
      offered = x.offered;
      all = λ none. let bad : true ≡ false = sym thread_gone ∙ none in cc;
      whole = x.whole;
      tells = x.tells;
      channel = x.channel;
      lanes = x.lanes;
      took = x.took;
      merged = x.merged;
      made = left_made note;
      sound = x.sound;
      done = x.done;
    },
    among_last note x.left,
  )

  -- one more slip that the lane made of a copy that is left, or of any while the channel of slips is gone
  pub own_more : (note : Note) → IsAmong note x.left ⊎ (IsAmong note notes × (slips_gone now ≡ true)) → now.gone ≡ true
      → HasExchanged notes (with_own e (own_slip_of old.lane note)) old now
  own_more note owed went = record {
    lane = x.lane;
    accepted = x.accepted;
    left = x.left;
    first = x.first;
    offered = x.offered;
    all = x.all;
    whole = x.whole;
    tells = x.tells;
    channel = x.channel;
    lanes = x.lanes;
    took = x.took;
    merged = merged_own e.came e.own e.heard (own_slip_of old.lane note) x.merged;
    made = all_more (IsOwnSlip old.lane notes x.left (slips_gone now)) e.own (own_slip_of old.lane note) x.made
        (record { note = note; owed = owed; made = refl });
    sound = λ none. let bad : true ≡ false = sym went ∙ none in cc;
    done = x.done;
  }

  -- a slip that came
  pub heard_more : (slip : Slip) (next : Inbox Slip) → next.channel ≡ now.inbox.channel → next.lanes ≡ now.inbox.lanes
      → taken next ≡ taken now.inbox ++ slip ∷ []
      → next.gone ≡ now.inbox.gone → IsTimed (lane_clock now) now.inbox next
      → (y : HasExchanged notes (with_came e slip) old (with_inbox now next)) × (whats y.done.deeds ≡ whats x.done.deeds ++ Heard slip ∷ [])
  heard_more slip next channel lanes took still timed =
      let done = done_heard x.accepted e.came old now slip next x.done timed in (
        record {
          lane = x.lane;
          accepted = x.accepted;
          left = x.left;
          first = x.first;
          offered = x.offered;
          all = x.all;
          whole = x.whole;
          tells = λ fresh. x.tells fresh ∙ ap (λ g. any_gone now.senders || is_some g) (sym still);
          channel = channel ∙ x.channel;
          lanes = lanes ∙ x.lanes;
          took = took ∙ ap (λ l. l ++ slip ∷ []) x.took ∙ append_assoc (taken old.inbox) e.came (slip ∷ []);
          merged = merged_prefix e.came e.own e.heard slip x.merged;
          made = subst (λ g. AllByRecursion (IsOwnSlip old.lane notes x.left (is_some g)) e.own) (sym still) x.made;
          sound = x.sound;
          done = done.0;
        },
        done.1,
      )

  -- the channel of slips was found gone
  pub gone_more : (next : Inbox Slip) → next.channel ≡ now.inbox.channel → next.lanes ≡ now.inbox.lanes → taken next ≡ taken now.inbox
      → is_some next.gone ≡ true → HasSameTimes now.inbox next → HasExchanged notes e old (found_gone (with_inbox now next))
  gone_more next channel lanes took lost same_times = record {
    lane = x.lane;
    accepted = x.accepted;
    left = x.left;
    first = x.first;
    offered = x.offered;
    all = x.all;
    whole = λ none. cc;
    tells = λ fresh. sym (ap (λ b. any_gone now.senders || b) lost ∙ or_true (any_gone now.senders));
    channel = channel ∙ x.channel;
    lanes = lanes ∙ x.lanes;
    took = took ∙ x.took;
    merged = x.merged;
    made = made_weaker old.lane notes x.left notes x.left (slips_gone now) (is_some next.gone)
        (λ n h. elim h [
          | inl l ↦ inl l
          | inr a ↦ inr (a.0, lost)
        ]) e.own x.made;
    sound = λ none. cc;
    done = done_none x.accepted e.came old now next x.done same_times.1;
  }

-- these ends, and this gatherer
abbrev pub sending : LaneEnds → Gather → Sending
sending ends gather = record { ends = ends; gather = gather }

-- once a channel was found gone nothing is said of the order
pub in_any_order : (notes : List Note) (e : Episode) (did : List Deed) (old now : LaneEnds) → now.gone ≡ true → HasExchanged notes e old now
    → HasExchangedBy notes e did old now
in_any_order notes e did old now went x = record { exchanged = x; in_order = λ none. let bad : true ≡ false = sym went ∙ none in cc }

-- one more copy is left where these ends were
abbrev pub LeavesCopy : Note → LaneEnds → LaneEnds → Type 0
LeavesCopy note now next = (notes : List Note) (e : Episode) (old : LaneEnds) → HasExchanged notes e old now
    → (y : HasExchanged (notes ++ note ∷ []) e old next) × IsAmong note y.left

-- the same steps within a message
module _ (notes : List Note) (gave : List Deed) (txn : Txn) (n : ℕ) (past : Episode) (old : LaneEnds) (now : Sending)
    (x : IsUnderWay notes gave txn n past old now) where
  pub way_offered : (note : Note) (next : List (Sender Note)) → any_gone now.ends.senders ≡ false → (now.ends.gone ≡ false → x.now.heard ≡ [])
      → IsOffered (lane_clock now.ends) (worker_thread note.mailbox) (λ sender. note) true now.ends.senders next
      → IsOffering (notes ++ note ∷ []) (gave ++ map Gave (note ∷ [])) txn n past old (sending (with_senders now.ends next) now.gather)
  way_offered note next none unheard o =
      let y = offered_more notes (joined past x.now) old now.ends x.exchanged.exchanged note next none o in
      record {
        way = record {
          now = x.now;
          is = x.is;
          exchanged = record {
            exchanged = y.0;
            in_order = λ sound. y.1 ∙ ap (λ l. l ++ Gave note ∷ []) (x.exchanged.in_order sound) ∙ gave_last gave note x.now.heard (unheard sound);
          };
          gathered = x.gathered;
        };
        none_heard = unheard;
      }

  pub way_left : (did : List Deed) (note : Note) (next : LaneEnds) (gather : Gather) → LeavesCopy note now.ends next → next.gone ≡ true
      → (own_slip_of old.lane note).txn ≡ txn
      → (times_named (own_slip_of old.lane note).txn (own_slip_of old.lane note).place x.now.heard ≡ 0)
      × HasGathered txn n (x.now.heard ++ own_slip_of old.lane note ∷ []) gather
      → IsOffering (notes ++ note ∷ []) did txn n past old (sending next gather)
  way_left did note next gather leaves went same g =
      let slip : Slip = own_slip_of old.lane note in
      let y = leaves notes (joined past x.now) old x.exchanged.exchanged in
      record {
        way = record {
          now = with_own x.now slip;
          is = episode_own txn x.now slip same g.0 x.is;
          exchanged = in_any_order (notes ++ note ∷ []) (joined past (with_own x.now slip)) (did ++ map Heard (x.now.heard ++ slip ∷ [])) old next went
              (subst (λ e. HasExchanged (notes ++ note ∷ []) e old next) (joined_own past x.now slip)
              (own_more (notes ++ note ∷ []) (joined past x.now) old next y.0 note (inl y.1) went));
          gathered = g.1;
        };
        none_heard = λ none. let bad : true ≡ false = sym went ∙ none in cc;
      }

  pub way_kept : (did : List Deed) (note : Note) (next : LaneEnds) → LeavesCopy note now.ends next → next.gone ≡ true
      → IsOffering (notes ++ note ∷ []) did txn n past old (sending next now.gather)
  way_kept did note next leaves went = record {
    way = record {
      now = x.now;
      is = x.is;
      exchanged = in_any_order (notes ++ note ∷ []) (joined past x.now) (did ++ map Heard x.now.heard) old next went
          (leaves notes (joined past x.now) old x.exchanged.exchanged).0;
      gathered = x.gathered;
    };
    none_heard = λ none. let bad : true ≡ false = sym went ∙ none in cc;
  }

  pub way_failed : (note : Note) (next : Gather) → IsAmong note notes → slips_gone now.ends ≡ true → now.ends.gone ≡ true
      → (own_slip_of old.lane note).txn ≡ txn
      → (times_named (own_slip_of old.lane note).txn (own_slip_of old.lane note).place x.now.heard ≡ 0)
      × HasGathered txn n (x.now.heard ++ own_slip_of old.lane note ∷ []) next
      → IsUnderWay notes gave txn n past old (sending now.ends next)
  way_failed note next among lost went same g =
      let slip : Slip = own_slip_of old.lane note in
      record {
        now = with_own x.now slip;
        is = episode_own txn x.now slip same g.0 x.is;
        exchanged = in_any_order notes (joined past (with_own x.now slip)) (gave ++ map Heard (x.now.heard ++ slip ∷ [])) old now.ends went
            (subst (λ e. HasExchanged notes e old now.ends) (joined_own past x.now slip)
            (own_more notes (joined past x.now) old now.ends x.exchanged.exchanged note (inr (among, lost)) went));
        gathered = g.1;
      }

  pub way_heard : (slip : Slip) (after : Inbox Slip) (next : Gather) → after.channel ≡ now.ends.inbox.channel → after.lanes ≡ now.ends.inbox.lanes
      → taken after ≡ taken now.ends.inbox ++ slip ∷ [] → after.gone ≡ now.ends.inbox.gone → IsTimed (lane_clock now.ends) now.ends.inbox after
      → HasGathered txn n (x.now.heard ++ slip ∷ []) next
      → IsUnderWay notes gave txn n past old (sending (with_inbox now.ends after) next)
  way_heard slip after next channel lanes took still timed g =
      let y = heard_more notes (joined past x.now) old now.ends x.exchanged.exchanged slip after channel lanes took still timed in
      record {
        now = with_came x.now slip;
        is = episode_came txn x.now slip x.is;
        exchanged = subst (λ e. HasExchangedBy notes e (gave ++ map Heard (x.now.heard ++ slip ∷ [])) old (with_inbox now.ends after))
            (joined_came past x.now slip) (record {
              exchanged = y.0;
              in_order = λ sound. y.1 ∙ ap (λ l. l ++ Heard slip ∷ []) (x.exchanged.in_order sound) ∙ heard_last gave x.now.heard slip;
            });
        gathered = g;
      }

  pub way_gone : (after : Inbox Slip) → after.channel ≡ now.ends.inbox.channel → after.lanes ≡ now.ends.inbox.lanes → taken after ≡ taken now.ends.inbox
      → is_some after.gone ≡ true → HasSameTimes now.ends.inbox after
      → IsUnderWay notes gave txn n past old (sending (found_gone (with_inbox now.ends after)) now.gather)
  way_gone after channel lanes took lost same_times = record {
    now = x.now;
    is = x.is;
    exchanged = in_any_order notes (joined past x.now) (gave ++ map Heard x.now.heard) old (found_gone (with_inbox now.ends after)) refl
        (gone_more notes (joined past x.now) old now.ends x.exchanged.exchanged after channel lanes took lost same_times);
    gathered = x.gathered;
  }

-- a gatherer that was given a slip
abbrev pub HearsSlip : Slip → Gather → Gather → Type 0
HearsSlip slip old new = (txn : Txn) (n : ℕ) (heard : List Slip) → HasGathered txn n heard old → HasGathered txn n (heard ++ slip ∷ []) new

-- a copy was left: the lane's own slip of it was given to the gatherer, or its place keeps the slip that it has
left_by : (note : Note) (now : Sending) (next : LaneEnds) (gather : Gather) (taken_so : Bool) → note.txn.lane ≡ now.ends.lane → LeavesCopy note now.ends next
    → next.gone ≡ true
    → GathersOne (own_slip_of now.ends.lane note) now.gather gather taken_so
    → Continues note.txn (note ∷ []) now (sending next gather)
left_by note now next gather true here leaves went takes notes gave n past old x =
    let same : now.ends.lane ≡ old.lane = x.way.exchanged.exchanged.lane in
    let named : txn_of now.ends.lane note.txn.number ≡ note.txn = ap (λ l. txn_of l note.txn.number) (sym here) in
    let N : ℕ → Type 0 = λ l. (times_named (own_slip_of l note).txn note.place x.way.now.heard ≡ 0)
    × HasGathered note.txn n (x.way.now.heard ++ own_slip_of l note ∷ []) gather in
    way_left notes gave note.txn n past old now x.way (gave ++ map Gave (note ∷ [])) note next gather leaves went
    (ap (λ l. txn_of l note.txn.number) (sym same) ∙ named) (subst N same (takes note.txn n x.way.now.heard x.way.gathered))
left_by note now next gather false here leaves went kept notes gave n past old x =
    subst (λ g. IsOffering (notes ++ note ∷ []) (gave ++ map Gave (note ∷ [])) note.txn n past old (sending next g)) (sym kept)
    (way_kept notes gave note.txn n past old now x.way (gave ++ map Gave (note ∷ [])) note next leaves went)

pub left_way : (slip : Slip) (note : Note) (now next : Sending) (ends : LaneEnds) (taken_so : Bool) → note.txn.lane ≡ now.ends.lane
    → slip ≡ own_slip_of now.ends.lane note
    → LeavesCopy note now.ends ends → ends.gone ≡ true → next.ends ≡ ends → GathersOne slip now.gather next.gather taken_so
    → Continues note.txn (note ∷ []) now next
left_way slip note now next ends taken_so here is leaves went same takes notes gave n past old x =
    let T : Slip → Type 0 = λ s. GathersOne s now.gather next.gather taken_so in
    subst (λ e. IsOffering (notes ++ note ∷ []) (gave ++ map Gave (note ∷ [])) note.txn n past old (sending e next.gather)) (sym same)
    (left_by note now ends next.gather taken_so here leaves went (subst T is takes) notes gave n past old x)

pub leaves_gone : (mailbox : ℕ) (note : Note) (now : LaneEnds) (next : List (Sender Note)) → note.mailbox ≡ mailbox
    → IsOffered (lane_clock now) (worker_thread mailbox) (λ sender. note) false now.senders next
    → LeavesCopy note now (found_gone (with_senders now next))
leaves_gone mailbox note now next is o notes e old x =
    let P : ℕ → Type 0 = λ b. IsOffered (lane_clock now) (worker_thread b) (λ sender. note) false now.senders next in
    gone_keeps_time notes e old now x note next (subst P (sym is) o)

pub leaves_unoffered : (note : Note) (now : LaneEnds) → any_gone now.senders ≡ true → LeavesCopy note now now
leaves_unoffered note now thread_gone notes e old x = unoffered_more notes e old now x note thread_gone

pub offered_way : (mailbox : ℕ) (note : Note) (now : Sending) (next : List (Sender Note)) → note.mailbox ≡ mailbox → any_gone now.ends.senders ≡ false
    → IsOffered (lane_clock now.ends) (worker_thread mailbox) (λ sender. note) true now.ends.senders next
    → Continues note.txn (note ∷ []) now (sending (with_senders now.ends next) now.gather)
offered_way mailbox note now next is none o notes gave n past old x =
    let P : ℕ → Type 0 = λ b. IsOffered (lane_clock now.ends) (worker_thread b) (λ sender. note) true now.ends.senders next in
    way_offered notes gave note.txn n past old now x.way note next none x.none_heard (subst P (sym is) o)

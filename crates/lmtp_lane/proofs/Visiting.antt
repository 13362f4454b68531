-- The clients of a lane, one after another.
use Rattle.std.proofs.Common.{◌≡◌, ℕ, ◌+◌, List, [], ◌∷◌, ◌++◌, length, map, Option, Some, None, inl, refl, ap, sym, ◌∙◌, subst, append_assoc, append-nil}
use Rattle.std.proofs.Common.{length-append, arith}
use Rattle.std.specs.List.{AllByRecursion}
use Rattle.mail_world.specs.Site.{Site}
use Rattle.mail_world.specs.Conversation.{Conversation}
use Rattle.mail_world.specs.Lists.{Transaction, transactions}
use Rattle.lmtp_talk.specs.declared.ending.EndCause.{EndCause}
use Rattle.lmtp_talk.specs.Peer.{PeerState, RisesBy}
use Rattle.lmtp_talk.specs.Parties.{Parties}
use Rattle.lmtp_talk.specs.Served.{Terms, terms, HasRead, IsServed, transactions_in, accepted_after_conversation}
use Rattle.lmtp_talk.proofs.Counting.{rises_then}
use Rattle.lmtp_talk.specs.Entries.{Entry, OfEnd, entries_in, with_entries}
use Rattle.lmtp_talk.proofs.Entered.{with_none, with_both}
use Rattle.lmtp_lane.specs.Visits.{VisitsTold, Finished, TellsFinished, Visit, IsVisit, finished_of, conversations_of, HasFinished, HasVisited, HasConversed}
use Rattle.lmtp_lane.specs.Visits.{visit_entries, lane_entries}
use Rattle.mail_world.specs.Counts.{counted}

-- a client that was served, and is handed back
pub conversed : (by : Terms) (old new : VisitsTold) (before after : Parties) (later : Option (List Entry)) (Before After : ℕ → List Transaction → Type 0)
    (cause : EndCause)
    → IsServed by before after Before After cause → HasRead by.reads before.peer after.peer cause → TellsFinished old.each new.each after.peer cause
    → RisesBy 1 old.count new.count
    → later ≡ with_entries after.told (OfEnd cause ∷ []) → HasConversed by before.peer old new before.told later Before After
conversed by old new before after later Before After cause x reads finishes counts ended = record {
  visit = record { before = before.peer; after = after.peer; conversation = x.conversation; cause = cause };
  is = record { client = refl; reads = reads; said = x.said; moved = x.moved; accounted = x.accounted; says = x.says; causes = x.causes };
  told = finishes;
  counts = counts;
  delivered = x.delivered;
  logged = λ n ts first. ended ∙ ap (λ (o : Option (List Entry)). with_entries o (OfEnd cause ∷ [])) (x.logged n ts first)
      ∙ with_both before.told (entries_in by.site n x.conversation) (OfEnd cause ∷ []);
}

-- how many DATA commands were accepted after these conversations
abbrev pub accepted_all : Site → ℕ → List Conversation → ℕ
accepted_all site n [] = n
accepted_all site n (c ∷ cs) = accepted_all site (accepted_after_conversation site n c) cs

accepted_last : (site : Site) (n : ℕ) (cs : List Conversation) (c : Conversation)
    → accepted_all site n (cs ++ c ∷ []) ≡ accepted_after_conversation site (accepted_all site n cs) c
accepted_last site n [] c = refl
accepted_last site n (x ∷ cs) c = accepted_last site (accepted_after_conversation site n x) cs c

transactions_last : (site : Site) (n : ℕ) (cs : List Conversation) (c : Conversation)
    → transactions site n (cs ++ c ∷ []) ≡ transactions site n cs ++ transactions_in site (accepted_all site n cs) c
unfolding transactions
transactions_last site n [] c = append-nil (transactions_in site n c)
transactions_last site n (x ∷ cs) c =
    ap (λ l. transactions_in site n x ++ l) (transactions_last site (accepted_after_conversation site n x) cs c)
    ∙ sym (append_assoc (transactions_in site n x) (transactions site (accepted_after_conversation site n x) cs)
    (transactions_in site (accepted_all site (accepted_after_conversation site n x) cs) c))

transactions_first : (site : Site) (n : ℕ) → transactions site n [] ≡ []
unfolding transactions
transactions_first site n = refl

conversations_last : (vs : List Visit) (v : Visit) → conversations_of (vs ++ v ∷ []) ≡ conversations_of vs ++ v.conversation ∷ []
conversations_last [] v = refl
conversations_last (x ∷ vs) v = ap (λ l. x.conversation ∷ l) (conversations_last vs v)

-- the entries of one more conversation
entries_last : (site : Site) (n : ℕ) (vs : List Visit) (v : Visit)
    → lane_entries site n (vs ++ v ∷ []) ≡ lane_entries site n vs ++ visit_entries site (accepted_all site n (conversations_of vs)) v
entries_last site n [] v = append-nil (visit_entries site n v)
entries_last site n (x ∷ vs) v =
    let k : ℕ = accepted_after_conversation site n x.conversation in
    ap (λ l. visit_entries site n x ++ l) (entries_last site k vs v)
    ∙ sym (append_assoc (visit_entries site n x) (lane_entries site k vs) (visit_entries site (accepted_all site k (conversations_of vs)) v))

logged_last : (site : Site) (vs : List Visit) (v : Visit) (old now next : Option (List Entry)) → now ≡ with_entries old (lane_entries site 0 vs)
    → next ≡ with_entries now (visit_entries site (accepted_all site 0 (conversations_of vs)) v) → next ≡ with_entries old (lane_entries site 0 (vs ++ v ∷ []))
logged_last site vs v old now next before told =
    let own : List Entry = visit_entries site (accepted_all site 0 (conversations_of vs)) v in
    told ∙ ap (λ (o : Option (List Entry)). with_entries o own) before ∙ with_both old (lane_entries site 0 vs) own
    ∙ ap (λ l. with_entries old l) (sym (entries_last site 0 vs v))

-- the clients that were served so far, what the observer was told of them, and what the delivery has come to with them
pub record HasCalled (by : Terms) (MayCome : PeerState → Type 0) (old now : VisitsTold) (earlier later : Option (List Entry))
    (Come : ℕ → List Transaction → Type 0) (count : ℕ) : Type 0 where
  pub visits : List Visit
  pub visited : HasVisited by MayCome old now visits
  pub logged : later ≡ with_entries earlier (lane_entries by.site 0 visits)
  pub counts : count ≡ counted (length visits)
  pub come : Come (accepted_all by.site 0 (conversations_of visits)) (transactions by.site 0 (conversations_of visits))

-- none yet
told_none : (old : Option (List Finished)) → HasFinished old old []
told_none None = refl
told_none (Some told) = ap (λ l. Some l) (sym (append-nil told))

pub called_none : (by : Terms) (MayCome : PeerState → Type 0) (old : VisitsTold) (told : Option (List Entry)) (Come : ℕ → List Transaction → Type 0)
    → Come 0 [] → HasCalled by MayCome old old told told Come 0
called_none by MayCome old told Come come = record {
  visits = [];
  visited = record { told = told_none old.each; counts = inl (omega arith); each = tt };
  logged = with_none told;
  counts = refl;
  come = subst (λ ts. Come 0 ts) (sym (transactions_first by.site 0)) come;
}

-- one more client
finished_last : (vs : List Visit) (v : Visit) → map finished_of (vs ++ v ∷ []) ≡ map finished_of vs ++ finished_of v ∷ []
finished_last [] v = refl
finished_last (x ∷ vs) v = ap (λ l. finished_of x ∷ l) (finished_last vs v)

told_more : (old now next : Option (List Finished)) (vs : List Visit) (v : Visit) → HasFinished old now vs → TellsFinished now next v.after v.cause
    → HasFinished old next (vs ++ v ∷ [])
told_more None None next vs v h f = f
told_more None (Some now) next vs v h f = let bad : ◌≡◌ {A = Option (List Finished)} (Some now) None = h in cc
told_more (Some told) None next vs v h f = let bad : ◌≡◌ {A = Option (List Finished)} None (Some (told ++ map finished_of vs)) = h in cc
told_more (Some told) (Some now) next vs v h f =
    let same : now ≡ told ++ map finished_of vs = cc in
    f ∙ ap (λ l. Some l) (ap (λ l. l ++ finished_of v ∷ []) same ∙ append_assoc told (map finished_of vs) (finished_of v ∷ [])
    ∙ ap (λ l. told ++ l) (sym (finished_last vs v)))

each_more : (P : Visit → Type 0) (vs : List Visit) (v : Visit) → AllByRecursion P vs → P v → AllByRecursion P (vs ++ v ∷ [])
each_more P [] v h p = (p, tt)
each_more P (x ∷ vs) v h p = (h.0, each_more P vs v h.1 p)

more_called : (by : Terms) (MayCome : PeerState → Type 0) (peer : PeerState) (old now next : VisitsTold) (first before after : Option (List Entry))
    (Come Come' : ℕ → List Transaction → Type 0) (count count' : ℕ)
    → count' ≡ counted (count + 1) → MayCome peer → HasCalled by MayCome old now first before Come count
    → HasConversed by peer now next before after Come Come' → HasCalled by MayCome old next first after Come' count'
more_called by MayCome peer old now next first before after Come Come' count count' e may x y =
    let v : Visit = y.visit in
    let site : Site = by.site in
    let cs : List Conversation = conversations_of x.visits in
    let is : IsVisit by MayCome v = record {
      client = subst MayCome (sym y.is.client) may;
      reads = y.is.reads;
      said = y.is.said;
      moved = y.is.moved;
      accounted = y.is.accounted;
      says = y.is.says;
      causes = y.is.causes;
    } in
    let all : conversations_of (x.visits ++ v ∷ []) ≡ cs ++ v.conversation ∷ [] = conversations_last x.visits v in
    let size : length (x.visits ++ v ∷ []) ≡ length x.visits + 1 = length-append x.visits (v ∷ []) in
    let with_last : Come' (accepted_after_conversation site (accepted_all site 0 cs) v.conversation)
    (transactions site 0 cs ++ transactions_in site (accepted_all site 0 cs) v.conversation)
    = y.delivered (accepted_all site 0 cs) (transactions site 0 cs) x.come in
    let counted_so : Come' (accepted_all site 0 (cs ++ v.conversation ∷ []))
    (transactions site 0 cs ++ transactions_in site (accepted_all site 0 cs) v.conversation)
    = subst (λ n. Come' n (transactions site 0 cs ++ transactions_in site (accepted_all site 0 cs) v.conversation))
    (sym (accepted_last site 0 cs v.conversation)) with_last in
    let come : Come' (accepted_all site 0 (cs ++ v.conversation ∷ [])) (transactions site 0 (cs ++ v.conversation ∷ []))
    = subst (λ ts. Come' (accepted_all site 0 (cs ++ v.conversation ∷ [])) ts) (sym (transactions_last site 0 cs v.conversation)) counted_so in
    record {
      visits = x.visits ++ v ∷ [];
      visited = record {
        told = told_more old.each now.each next.each x.visits v x.visited.told y.told;
        counts = subst (λ n. RisesBy n old.count next.count) (sym size)
            (rises_then (length x.visits) 1 old.count now.count next.count x.visited.counts y.counts);
        each = each_more (IsVisit by MayCome) x.visits v x.visited.each is;
      };
      logged = logged_last site x.visits v first before after x.logged (y.logged (accepted_all site 0 cs) (transactions site 0 cs) x.come);
      counts = omega (arith, e, x.counts, size);
      come = subst (λ l. Come' (accepted_all site 0 l) (transactions site 0 l)) (sym all) come;
    }

pub called_more : (reads : ℕ) (site site' : Site) (MayCome : PeerState → Type 0) (peer : PeerState) (old now now' next : VisitsTold)
    (first before after : Option (List Entry)) (Come Come' : ℕ → List Transaction → Type 0) (count count' : ℕ)
    → site' ≡ site → now' ≡ now → count' ≡ counted (count + 1) → MayCome peer → HasCalled (terms site reads) MayCome old now first before Come count
    → HasConversed (terms site' reads) peer now' next before after Come Come'
    → HasCalled (terms site reads) MayCome old next first after Come' count'
called_more reads site site' MayCome peer old now now' next first before after Come Come' count count' here same e may x y =
    let P : Site → Type 0 = λ s. HasConversed (terms s reads) peer now' next before after Come Come' in
    let Q : VisitsTold → Type 0 = λ v. HasConversed (terms site reads) peer v next before after Come Come' in
    more_called (terms site reads) MayCome peer old now next first before after Come Come' count count' e may x (subst Q same (subst P here y))

-- What a lane's account says once another DATA command came, or another data ended.
use Rattle.std.proofs.Common.{◌≡◌, ℕ, zero, suc, cond, ◌+◌, ◌<◌, ◌≤◌, ◌^◌, List, [], ◌∷◌, ◌++◌, length, map, Bool, true, false, Option, Some, None, refl, ap}
use Rattle.std.proofs.Common.{sym, ◌∙◌, subst, append_assoc, append-nil, arith}
use Rattle.std.specs.Prelude.{is_some, ◌||◌, ◌&&◌, nat_lt, if◌then◌else◌, flat_map, find, option_map}
use Rattle.std.specs.List.{AllByRecursion, range_with_len}
use Rattle.std.specs.Option.{IfSome}
use Rattle.std.proofs.lemmas.Grind.{flat_map-append}
use Rattle.std.proofs.lemmas.Bool.Decides.{nat_tests}
use Rattle.mail_world.specs.declared.Txn.{Txn}
use Rattle.mail_world.specs.Slips.{names, answer, txn_of}
use Rattle.mail_world.specs.declared.Note.{Note}
use Rattle.mail_world.specs.declared.Outcome.{Outcome}
use Rattle.mail_world.specs.declared.Slip.{Slip}
use Rattle.mail_world.specs.declared.Verdict.{Verdict}
use Rattle.mail_world.specs.declared.Verdict.TheVariants.{Whole, TooLarge, Malformed, NoRoom}
use Rattle.mail_world.specs.declared.limits.TheConstants.{NUMBER_LIMIT, RECIPIENT_LIMIT}
use Rattle.mail_world.specs.Session.{Session}
use Rattle.mail_world.specs.Site.{Site}
use Rattle.mail_world.specs.Malformed.{is_malformed}
use Rattle.mail_world.specs.Lists.{Transaction, VerdictFits, OutcomesIn, copies, copies_if, copies_from, is_refused}
use Rattle.mail_form.specs.declared.form.MessageForm.{MessageForm}
use Rattle.mail_form.proofs.Laws.{form_says}
use Rattle.mail_world.proofs.Heard.{all_more}
use Rattle.msg_depot.specs.declared.view.Claim.{Claim}
use Rattle.mail_runs.specs.Deeds.{Gave, Heard}
use Rattle.mail_post.specs.Channel.{taken}
use Rattle.mail_post.specs.Offered.{any_gone}
use Rattle.mail_post.proofs.Offered.{sent_nothing}
use Rattle.lmtp_lane.specs.LaneExchange.{LaneEnds, for_thread, HasExchangedBy, Episode, joined, IsEpisode, sent_as}
use Rattle.mail_world.specs.Counts.{counted}
use Rattle.lmtp_lane.proofs.Doing.{done_nothing}
use Rattle.lmtp_lane.proofs.Turns.{exchanges_none, exchanged_whole}
use Rattle.lmtp_lane.proofs.Exchanging.{no_episode, joined_none}
use Rattle.lmtp_lane.specs.LaneAccount.{IsAnswered, AreEpisodes, IsHeardInTurn, HasOffered, HoldsDraft, IsKnownForm, verdict_with, verdict_on, says_malformed, Delivers}
use Rattle.lmtp_talk.specs.Delivery.{EndsDraft}

-- a slip that was found is found where more are heard
prefix_by : (p : Slip → Bool) (x : Slip) (xs more : List Slip) (o : Outcome) (t : Bool)
    → (option_map (λ s. s.outcome) (find p xs) ≡ Some o → option_map (λ s. s.outcome) (find p (xs ++ more)) ≡ Some o)
    → option_map (λ s. s.outcome) (cond t (Some x) (find p xs)) ≡ Some o → option_map (λ s. s.outcome) (cond t (Some x) (find p (xs ++ more))) ≡ Some o
prefix_by p x xs more o true later e = e
prefix_by p x xs more o false later e = later e

find_prefix : (p : Slip → Bool) (xs more : List Slip) (o : Outcome) → option_map (λ s. s.outcome) (find p xs) ≡ Some o
    → option_map (λ s. s.outcome) (find p (xs ++ more)) ≡ Some o
find_prefix p [] more o e = let bad : ◌≡◌ {A = Option Outcome} None (Some o) = e in cc
find_prefix p (x ∷ xs) more o e = prefix_by p x xs more o (p x) (find_prefix p xs more o) e

stays_range : (txn : Txn) (since more : List Slip) (a n : ℕ) (os : List Outcome) → map (λ o. Some o) os ≡ map (answer txn since) (range_with_len a n)
    → map (λ o. Some o) os ≡ map (answer txn (since ++ more)) (range_with_len a n)
stays_range txn since more a zero os e = e
stays_range txn since more a (suc n) [] e = cc
stays_range txn since more a (suc n) (o ∷ os) e =
    let first : Some o ≡ answer txn since a = cc in
    let rest : map (λ o. Some o) os ≡ map (answer txn since) (range_with_len (a + 1) n) = cc in
    ap (λ x. x ∷ map (λ o. Some o) os) (sym (find_prefix (names txn a) since more o (sym first)))
    ∙ ap (λ l. answer txn (since ++ more) a ∷ l) (stays_range txn since more (a + 1) n os rest)

stays_by : (lane : ℕ) (more since : List Slip) (t : Transaction) (v : Verdict) → OutcomesIn lane since t v → OutcomesIn lane (since ++ more) t v
stays_by lane more since t Whole h = stays_range (record { lane = lane; number = t.number }) since more 0 (length t.session.recipients) t.disposition.outcomes h
stays_by lane more since t TooLarge h = tt
stays_by lane more since t Malformed h = tt
stays_by lane more since t NoRoom h = tt

-- what was answered stays so, whatever is heard later
answered_later : (lane : ℕ) (heard more : List Slip) (ts : List Transaction)
    → AllByRecursion (IsAnswered lane heard) ts → AllByRecursion (IsAnswered lane (heard ++ more)) ts
answered_later lane heard more [] h = tt
answered_later lane heard more (t ∷ ts) h = (
  record {
    before = h.0.before;
    since = h.0.since ++ more;
    whole = ap (λ l. l ++ more) h.0.whole ∙ append_assoc h.0.before h.0.since more;
    outcomes = stays_by lane more h.0.since t t.disposition.verdict h.0.outcomes;
  },
  answered_later lane heard more ts h.1,
)

-- the verdict fits the number, the length and the form
fits_by : (site : Site) (a b m : Bool) (d : Option Claim) (k size : ℕ) → nat_lt NUMBER_LIMIT k ≡ a → nat_lt site.message_limit size ≡ b
    → (t : Transaction) → is_refused site t.message ≡ m → t.number ≡ k → length t.message ≡ size
    → t.disposition.verdict ≡ (if a then NoRoom else if b then TooLarge else if m then Malformed else verdict_with d) → VerdictFits site t
fits_by site true b m d k size ea eb t em number long v =
    let over : NUMBER_LIMIT < k = grind (arith, nat_tests, ea) in record {
      too_large = (λ e. let wrong : NoRoom ≡ TooLarge = sym v ∙ e in cc, λ h. absurd (omega (arith, h.1, over, number)));
      malformed = (λ e. let wrong : NoRoom ≡ Malformed = sym v ∙ e in cc, λ h. absurd (omega (arith, h.2, over, number)));
      no_number = λ h. v;
    }
fits_by site false true m d k size ea eb t em number long v =
    let under : k ≤ NUMBER_LIMIT = grind (arith, nat_tests, ea) in
    let over : site.message_limit < size = grind (arith, nat_tests, eb) in record {
      too_large = (λ e. (omega (arith, over, long), omega (arith, under, number)), λ h. v);
      malformed = (λ e. let wrong : TooLarge ≡ Malformed = sym v ∙ e in cc, λ h. absurd (omega (arith, h.0, over, long)));
      no_number = λ h. absurd (omega (arith, h, under, number));
    }
fits_by site false false true d k size ea eb t em number long v =
    let under : k ≤ NUMBER_LIMIT = grind (arith, nat_tests, ea) in
    let small : size ≤ site.message_limit = grind (arith, nat_tests, eb) in record {
      too_large = (λ e. let wrong : Malformed ≡ TooLarge = sym v ∙ e in cc, λ h. absurd (omega (arith, h.0, small, long)));
      malformed = (λ e. (omega (arith, small, long), em, omega (arith, under, number)), λ h. v);
      no_number = λ h. absurd (omega (arith, h, under, number));
    }
fits_by site false false false (Some claim) k size ea eb t em number long v =
    let under : k ≤ NUMBER_LIMIT = grind (arith, nat_tests, ea) in
    let small : size ≤ site.message_limit = grind (arith, nat_tests, eb) in record {
      too_large = (λ e. let wrong : Whole ≡ TooLarge = sym v ∙ e in cc, λ h. absurd (omega (arith, h.0, small, long)));
      malformed = (λ e. let wrong : Whole ≡ Malformed = sym v ∙ e in cc, λ h. let wrong : false ≡ true = sym em ∙ h.1 in cc);
      no_number = λ h. absurd (omega (arith, h, under, number));
    }
fits_by site false false false None k size ea eb t em number long v =
    let under : k ≤ NUMBER_LIMIT = grind (arith, nat_tests, ea) in
    let small : size ≤ site.message_limit = grind (arith, nat_tests, eb) in record {
      too_large = (λ e. let wrong : NoRoom ≡ TooLarge = sym v ∙ e in cc, λ h. absurd (omega (arith, h.0, small, long)));
      malformed = (λ e. let wrong : NoRoom ≡ Malformed = sym v ∙ e in cc, λ h. let wrong : false ≡ true = sym em ∙ h.1 in cc);
      no_number = λ h. absurd (omega (arith, h, under, number));
    }

over_number : (k n : ℕ) → k ≡ counted n → nat_lt NUMBER_LIMIT k ≡ nat_lt NUMBER_LIMIT n
over_number k n e = grind (arith, nat_tests, e)

over_size : (limit k n : ℕ) → limit < 2 ^ 32 → k ≡ counted n → nat_lt limit k ≡ nat_lt limit n
over_size limit k n low e = grind (arith, nat_tests, e, low)

verdict_fits : (site : Site) (t : Transaction) (accepted size : ℕ) (m : Bool) (d : Option Claim) → site.message_limit < 2 ^ 32
    → accepted ≡ counted t.number → size ≡ counted (length t.message) → m ≡ is_refused site t.message
    → t.disposition.verdict ≡ verdict_on site.message_limit accepted size m d → VerdictFits site t
verdict_fits site t accepted size m d low number long form v =
    let limit : ℕ = site.message_limit in
    fits_by site (nat_lt NUMBER_LIMIT t.number) (nat_lt limit (length t.message)) m d t.number (length t.message) refl refl t (sym form) refl refl
    (v ∙ ap (λ b. if b then NoRoom else if nat_lt limit size then TooLarge else if m then Malformed else verdict_with d) (over_number accepted t.number number)
    ∙ ap (λ b. if nat_lt NUMBER_LIMIT t.number then NoRoom else if b then TooLarge else if m then Malformed else verdict_with d)
    (over_size limit size (length t.message) low long))

-- what is known of the form says whether the message is refused
malformed_is : (refuses : Bool) (form : Option MessageForm) (message : List ℕ) → IsKnownForm refuses form message
    → says_malformed form ≡ (refuses && is_malformed message)
malformed_is refuses None message h = ap (λ r. r && is_malformed message) (sym h)
malformed_is refuses (Some form) message h = form_says form message h.1 ∙ ap (λ r. r && is_malformed message) (sym h.0)

-- a refused message owes no copy, and has no outcome of its own
no_copy : (lane : ℕ) (t : Transaction) (v : Verdict) → (v ≡ Whole → ⊥) → copies_if lane t v ≡ []
no_copy lane t Whole f = absurd (f refl)
no_copy lane t TooLarge f = refl
no_copy lane t Malformed f = refl
no_copy lane t NoRoom f = refl

no_outcome : (lane : ℕ) (since : List Slip) (t : Transaction) (v : Verdict) → (v ≡ Whole → ⊥) → OutcomesIn lane since t v
no_outcome lane since t Whole f = absurd (f refl)
no_outcome lane since t TooLarge f = tt
no_outcome lane since t Malformed f = tt
no_outcome lane since t NoRoom f = tt

copies-snoc : (lane : ℕ) (ts : List Transaction) (t : Transaction) → flat_map (copies lane) (ts ++ t ∷ []) ≡ flat_map (copies lane) ts ++ copies lane t
copies-snoc lane ts t = flat_map-append (copies lane) ts (t ∷ []) ∙ ap (λ l. flat_map (copies lane) ts ++ l) (append-nil (copies lane t))

-- one more transaction, with its episode
episodes_more : (lane : ℕ) (ts : List Transaction) (es : List Episode) (t : Transaction) (e : Episode) → AreEpisodes lane ts es
    → IsEpisode (txn_of lane t.number) e
    → OutcomesIn lane e.heard t t.disposition.verdict → AreEpisodes lane (ts ++ t ∷ []) (es ++ e ∷ [])
episodes_more lane [] [] t e h is told = (is, told, tt)
episodes_more lane [] (f ∷ es) t e h is told = absurd h
episodes_more lane (u ∷ ts) [] t e h is told = absurd h
episodes_more lane (u ∷ ts) (f ∷ es) t e h is told = (h.0, h.1, episodes_more lane ts es t e h.2 is told)

slips-snoc : (f : Episode → List Slip) (es : List Episode) (e : Episode) → flat_map f (es ++ e ∷ []) ≡ flat_map f es ++ f e
slips-snoc f es e = flat_map-append f es (e ∷ []) ∙ ap (λ l. flat_map f es ++ l) (append-nil (f e))

turns_more : (lane : ℕ) (ts : List Transaction) (all : Episode) (t : Transaction) (e : Episode) → IsEpisode (txn_of lane t.number) e
    → OutcomesIn lane e.heard t t.disposition.verdict → IsHeardInTurn lane ts all → IsHeardInTurn lane (ts ++ t ∷ []) (joined all e)
turns_more lane ts all t e is told x = record {
  episodes = x.episodes ++ e ∷ [];
  each = episodes_more lane ts x.episodes t e x.each is told;
  came_is = ap (λ l. l ++ e.came) x.came_is ∙ sym (slips-snoc (λ (e : Episode). e.came) x.episodes e);
  own_is = ap (λ l. l ++ e.own) x.own_is ∙ sym (slips-snoc (λ (e : Episode). e.own) x.episodes e);
  heard_is = ap (λ l. l ++ e.heard) x.heard_is ∙ sym (slips-snoc (λ (e : Episode). e.heard) x.episodes e);
}

-- one more of which nothing was heard
turns_none : (lane : ℕ) (ts : List Transaction) (all : Episode) (t : Transaction) → OutcomesIn lane [] t t.disposition.verdict → IsHeardInTurn lane ts all
    → IsHeardInTurn lane (ts ++ t ∷ []) all
turns_none lane ts all t told x =
    subst (λ e. IsHeardInTurn lane (ts ++ t ∷ []) e) (joined_none all)
    (turns_more lane ts all t no_episode (record { timely = (refl, refl); named = tt }) told x)

-- one DATA command more was accepted
pub more_accepted : (site : Site) (May : ℕ → Type 0) (old now : LaneEnds) (accepted accepted' n : ℕ) (ts : List Transaction) → accepted' ≡ counted (accepted + 1)
    → HasOffered site May accepted old now n ts → HasOffered site May accepted' old now (n + 1) ts
more_accepted site May old now accepted accepted' n ts more x = record {
  count = omega (arith, more, x.count);
  came = x.came;
  own = x.own;
  heard = x.heard;
  exchanged = x.exchanged;
  did = x.did;
  in_order = x.in_order;
  exchanges = x.exchanges;
  turns = x.turns;
  answered = x.answered;
  verdicts = x.verdicts;
  moments = x.moments;
}

-- a message that is refused
pub ended_refused : (site : Site) (May : ℕ → Type 0) (old now : LaneEnds) (accepted size : ℕ) (form : Option MessageForm) (draft : Option Claim) (session : Session) (moment : ℕ)
    (v : Verdict) → site.message_limit < 2 ^ 32 → v ≡ verdict_on site.message_limit accepted size (says_malformed form) draft → (v ≡ Whole → ⊥) → May moment
    → (n : ℕ) (ts : List Transaction) (message : List ℕ) → HasOffered site May accepted old now n ts × HoldsDraft site.refuses_malformed draft size form message
    → EndsDraft (λ n ts. HasOffered site May accepted old now n ts) n ts session message (record { verdict = v; moment = moment; outcomes = [] })
ended_refused site May old now accepted size form draft session moment v small is other may n ts message h =
    let x = h.0 in
    let lane : ℕ = old.lane in
    let all : Episode = record { came = x.came; own = x.own; heard = x.heard } in
    let t : Transaction = record { number = n; session = session; message = message; disposition = record { verdict = v; moment = moment; outcomes = [] } } in
    let same : flat_map (copies lane) (ts ++ t ∷ []) ≡ flat_map (copies lane) ts =
    copies-snoc lane ts t ∙ ap (λ l. flat_map (copies lane) ts ++ l) (no_copy lane t v other) ∙ append-nil (flat_map (copies lane) ts) in
    let P : List Note → Type 0 = λ l. HasExchangedBy l all x.did old now in
    let y = subst P (sym same) (record { exchanged = x.exchanged; in_order = x.in_order }) in
    record {
      count = x.count;
      came = x.came;
      own = x.own;
      heard = x.heard;
      exchanged = y.exchanged;
      did = x.did;
      in_order = y.in_order;
      exchanges = exchanges_none RECIPIENT_LIMIT lane ts t x.did (no_copy lane t v other) x.exchanges;
      turns = turns_none lane ts all t (no_outcome lane [] t v other) x.turns;
      answered = all_more (IsAnswered lane x.heard) ts t x.answered
          (record { before = x.heard; since = []; whole = sym (append-nil x.heard); outcomes = no_outcome lane [] t v other });
      verdicts = all_more (VerdictFits site) ts t x.verdicts
          (verdict_fits site t accepted size (says_malformed form) draft small x.count h.1.long (malformed_is site.refuses_malformed form message h.1.formed) is);
      moments = all_more (λ (y : Transaction). May y.disposition.moment) ts t x.moments may;
    }

-- a copy doesn't tell the outcomes
copies_told : (lane n : ℕ) (session : Session) (moment : ℕ) (message : List ℕ) (told : List Outcome) (place : ℕ) (rs : List ℕ)
    → copies_from lane (sent_as n session moment message) place rs
    ≡ copies_from lane (record { number = n; session = session; message = message; disposition = record { verdict = Whole; moment = moment; outcomes = told } })
    place rs
copies_told lane n session moment message told place [] = refl
copies_told lane n session moment message told place (r ∷ rs) =
    ap (λ l. record {
      txn = record { lane = lane; number = n };
      place = place;
      mailbox = r;
      sender = session.sender;
      client = session.client;
      utf8 = session.utf8;
      moment = moment;
      message = message;
    } ∷ l)
    (copies_told lane n session moment message told (place + 1) rs)

bytes_are : (draft : Option Claim) (claim : Claim) (message : List ℕ) → draft ≡ Some claim → IfSome draft (λ (x : Claim). x.bytes ≡ message)
    → claim.bytes ≡ message
bytes_are draft claim message e h = let P : Option Claim → Type 0 = λ d. IfSome d (λ (x : Claim). x.bytes ≡ message) in subst P e h

-- a message that went to its recipients
whole_same : (site : Site) (May : ℕ → Type 0) (old now next : LaneEnds) (accepted size : ℕ) (form : Option MessageForm) (draft : Option Claim) (claim : Claim) (session : Session)
    (moment : ℕ) (told : List Outcome) → site.message_limit < 2 ^ 32 → accepted ≤ NUMBER_LIMIT → draft ≡ Some claim → Whole ≡ verdict_on site.message_limit accepted size (says_malformed form) draft
    → May moment
    → Delivers (sent_as accepted session moment claim.bytes) told now next
    → (n : ℕ) (ts : List Transaction) (message : List ℕ) → HasOffered site May accepted old now n ts × HoldsDraft site.refuses_malformed draft size form message
    → EndsDraft (λ n ts. HasOffered site May accepted old next n ts) n ts session message (record { verdict = Whole; moment = moment; outcomes = told })
whole_same site May old now next accepted size form draft claim session moment told small low there is may delivers n ts message h =
    let x = h.0 in
    let lane : ℕ = old.lane in
    let all : Episode = record { came = x.came; own = x.own; heard = x.heard } in
    let t : Transaction = record {
      number = n;
      session = session;
      message = message;
      disposition = record { verdict = Whole; moment = moment; outcomes = told };
    } in
    let number : accepted ≡ n = omega (arith, x.count, low) in
    let bytes : claim.bytes ≡ message = bytes_are draft claim message there h.1.bytes in
    let D : ℕ → List ℕ → Type 0 = λ k m. Delivers (sent_as k session moment m) told now next in
    let d = subst (λ m. D n m) bytes (subst (λ k. D k claim.bytes) number delivers) (flat_map (copies lane) ts) all x.did old
    (record { exchanged = x.exchanged; in_order = x.in_order }) in
    let P : List Note → Type 0 = λ l. HasExchangedBy (flat_map (copies lane) ts ++ l) (joined all d.now)
    (x.did ++ map Gave l ++ map Heard d.now.heard) old next in
    let Q : List Note → Type 0 = λ l. HasExchangedBy l (joined all d.now) (x.did ++ map Gave (copies lane t) ++ map Heard d.now.heard) old next in
    let y = subst Q (sym (copies-snoc lane ts t)) (subst P (copies_told lane n session moment message told 0 session.recipients) d.exchanged) in
    record {
      count = x.count;
      came = x.came ++ d.now.came;
      own = x.own ++ d.now.own;
      heard = x.heard ++ d.now.heard;
      exchanged = y.exchanged;
      did = x.did ++ map Gave (copies lane t) ++ map Heard d.now.heard;
      in_order = y.in_order;
      exchanges = exchanged_whole RECIPIENT_LIMIT lane ts t d.now.heard x.did refl d.few told d.outcomes x.exchanges;
      turns = turns_more lane ts all t d.now d.is d.outcomes x.turns;
      answered = all_more (IsAnswered lane (x.heard ++ d.now.heard)) ts t (answered_later lane x.heard d.now.heard ts x.answered)
          (record { before = x.heard; since = d.now.heard; whole = refl; outcomes = d.outcomes });
      verdicts = all_more (VerdictFits site) ts t x.verdicts
          (verdict_fits site t accepted size (says_malformed form) draft small x.count h.1.long (malformed_is site.refuses_malformed form message h.1.formed) is);
      moments = all_more (λ (y : Transaction). May y.disposition.moment) ts t x.moments may;
    }

pub ended_whole : (site : Site) (May : ℕ → Type 0) (old now next : LaneEnds) (accepted accepted' size : ℕ) (form : Option MessageForm) (draft : Option Claim) (claim : Claim)
    (session : Session) (moment moment' : ℕ) (told : List Outcome) → (accepted' ≡ accepted) × (moment' ≡ moment)
    → site.message_limit < 2 ^ 32 → accepted ≤ NUMBER_LIMIT → draft ≡ Some claim → Whole ≡ verdict_on site.message_limit accepted size (says_malformed form) draft → May moment
    → Delivers (sent_as accepted session moment claim.bytes) told now next
    → (n : ℕ) (ts : List Transaction) (message : List ℕ) → HasOffered site May accepted old now n ts × HoldsDraft site.refuses_malformed draft size form message
    → EndsDraft (λ n ts. HasOffered site May accepted' old next n ts) n ts session message (record { verdict = Whole; moment = moment'; outcomes = told })
ended_whole site May old now next accepted accepted' size form draft claim session moment moment' told same small low there is may delivers n ts message h =
    let Q : ℕ → Type 0 = λ k. EndsDraft (λ n ts. HasOffered site May k old next n ts) n ts session message
    (record { verdict = Whole; moment = moment'; outcomes = told }) in
    let R : ℕ → Type 0 = λ m. EndsDraft (λ n ts. HasOffered site May accepted old next n ts) n ts session message
    (record { verdict = Whole; moment = m; outcomes = told }) in
    subst Q (sym same.0) (subst R (sym same.1)
    (whole_same site May old now next accepted size form draft claim session moment told small low there is may delivers n ts message h))

or_false : (b : Bool) → (b || false) ≡ b
or_false true = refl
or_false false = refl

-- a lane that was given nothing to do
offered_none : (site : Site) (May : ℕ → Type 0) (ends : LaneEnds) → HasOffered site May 0 ends (record ends { gone = any_gone ends.senders }) 0 []
offered_none site May ends =
    let done = done_nothing ends (record ends { gone = any_gone ends.senders }) refl refl in
    record {
      count = refl;
      came = [];
      own = [];
      heard = [];
      exchanged = record {
        lane = refl;
        accepted = [];
        left = [];
        first = refl;
        offered = sent_nothing (λ t. for_thread t []) ends.senders (λ t. refl);
        all = λ none. refl;
        whole = λ none. none;
        tells = λ fresh. sym (ap (λ g. any_gone ends.senders || is_some g) fresh ∙ or_false (any_gone ends.senders));
        channel = refl;
        lanes = refl;
        took = sym (append-nil (taken ends.inbox));
        merged = (refl, refl);
        made = tt;
        sound = λ none. refl;
        done = done.0;
      };
      did = [];
      in_order = λ none. done.1;
      exchanges = refl;
      turns = record { episodes = []; each = tt; came_is = refl; own_is = refl; heard_is = refl };
      answered = tt;
      verdicts = tt;
      moments = tt;
    }

pub offered_start : (site : Site) (May : ℕ → Type 0) (old new : LaneEnds) → new ≡ record old { gone = any_gone old.senders } → HasOffered site May 0 old new 0 []
offered_start site May old new same = subst (λ e. HasOffered site May 0 old e 0 []) (sym same) (offered_none site May old)

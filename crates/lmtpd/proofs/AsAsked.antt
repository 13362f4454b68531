-- A server that words ask for: what it comes to, and why it didn't run, cause by cause.
use Rattle.std.proofs.Common.{◌≡◌, ◌∙◌, ◌⊎◌, inl, inr, ℕ, Bool, false, true, List, [], Option, length, map, None, IfSome, ap, refl, sym, subst}
use Rattle.std.specs.Arc.{arc_value}
use Rattle.std.specs.declared.alloc.Global.{Global}
use Rattle.std.specs.declared.sync.Arc.{Arc}
use Rattle.std.specs.Prelude.{Err, MatchResult, Ok, Result}
use Rattle.std.specs.List.{AllByRecursion}
use Rattle.std.proofs.lemmas.List.{length-map}
use Rattle.mail_world.specs.Site.{Site}
use Rattle.lmtp_talk.specs.Entries.{Entry}
use Rattle.lmtp_threads.specs.Works.{SpoolsView}
use Rattle.lmtp_house.specs.House.{IsSize}
use Rattle.lmtp_house.specs.declared.house.sizes.Sizes.{Sizes}
use Rattle.lmtpd_serve.specs.declared.served.Served.{Served}
use Rattle.lmtpd_serve.specs.Served.{IsServerRun, Serving}
use Rattle.lmtp_house.specs.declared.house.fault.HouseFault.{HouseFault}
use Rattle.lmtp_house.specs.declared.house.fault.HouseFault.TheVariants as house
use Rattle.lmtpd_words.specs.Quotas.{quota_for}
use Rattle.lmtpd_words.specs.Words.{serving_site}
use Rattle.lmtpd_words.specs.declared.words.ServeWords.{ServeWords}
use Rattle.lmtpd_setup.specs.declared.fault.Fault.TheVariants as fault
use Rattle.lmtpd_setup.specs.declared.stop.Stop.TheVariants as stop
use Rattle.lmtpd_setup.specs.Faults.{site_fault}
use Rattle.lmtpd.specs.Lacking.{house_refusal}
use Rattle.lmtpd_log.specs.LaneLogs.{LogLines}
use Rattle.lmtpd_listen.specs.Listening.{Names}
use Rattle.lmtpd_listen.specs.declared.fault.ListenFault.TheVariants as listen
use Rattle.lmtpd_listen.specs.declared.listen_address.ListenAddress.{ListenAddress}
use Rattle.lmtpd_setup.specs.declared.fault.Fault.{Fault}
use Rattle.lmtpd_listen.specs.declared.opened.Opened.{Opened}
use Rattle.lmtpd_listen.specs.declared.server.ServerSocket.{ServerSocket}
use Rattle.lmtpd_setup.specs.Curfew.{IsCurfewOf}
use Rattle.lmtpd_setup.specs.Mailboxes.{Held}
use Rattle.lmtpd_setup.specs.Names.{IsNoSite}
use Rattle.lmtpd_setup.specs.Setup.{IsNotSetUp, IsUnopenedAt, ends_asked, mailboxes_asked, quotas_asked}
use Rattle.lmtpd_setup.specs.declared.ends.ServerCurfew.{ServerCurfew}
use Rattle.lmtpd_setup.specs.declared.stop.Stop.{Stop}
use Rattle.lmtpd.specs.Program.{AreServeWords, IsListenAddress, IsListenedAt, IsNotRun, IsNotServed, IsServedAsAsked, IsSizeAsked}
use Rattle.slow_boxes.specs.declared.boxes.SlowBoxes.{SlowBoxes}
use Rattle.lmtpd.specs.Program.{conversations_asked, serving_asked, sizes_asked}
use Rattle.lmtpd_serve.specs.declared.conversations.Conversations.{Conversations}
use Rattle.lmtpd.proofs.Unrun.{causes, unrun}

not_run : (words : ServeWords) (cause : HouseFault) → words.check_words ≡ false → IsListenAddress words.listen.now → site_fault words.site ≡ None
    → (house_refusal cause ≡ fault.Memory) ⊎ IsNotRun (IsSizeAsked words) (house_refusal cause) → IsNotServed words (stop.Fault (house_refusal cause))
not_run words cause served address sound (inl memory) = inl (ap stop.Fault memory)
not_run words cause served address sound (inr why) = inr (inr (address, inr (sound, inl (served, inr (inr why)))))

-- these numbers of mailboxes and of quotas are as many as the words name
pub record AreAsMany (words : ServeWords) (count quotas : ℕ) : Type 0 where
  pub boxes : count ≡ length words.site.boxes.items
  pub quotas_too : quotas ≡ length words.site.boxes.items

pub size_asked : (words : ServeWords) (site : Site) (sizes : Sizes) (count quotas : ℕ) → site ≡ serving_site words.site → sizes ≡ sizes_asked words
    → AreAsMany words count quotas
    → IsSize site sizes words.lanes count count quotas → IsSizeAsked words
size_asked words site sizes count quotas is asked many good =
    let boxes : ℕ = length words.site.boxes.items in
    subst (λ (n : ℕ). IsSize (serving_site words.site) (sizes_asked words) words.lanes boxes boxes n) many.quotas_too
    (subst (λ (n : ℕ). IsSize (serving_site words.site) (sizes_asked words) words.lanes n n quotas) many.boxes
    (subst (λ (z : Sizes). IsSize (serving_site words.site) z words.lanes count count quotas) asked
    (subst (λ (s : Site). IsSize s sizes words.lanes count count quotas) is good)))

pub size_given : (words : ServeWords) (site : Site) (sizes : Sizes) (count quotas : ℕ) → site ≡ serving_site words.site → sizes ≡ sizes_asked words
    → AreAsMany words count quotas
    → IsSizeAsked words → IsSize site sizes words.lanes count count quotas
size_given words site sizes count quotas is asked many good =
    let boxes : ℕ = length words.site.boxes.items in
    subst (λ (s : Site). IsSize s sizes words.lanes count count quotas) (sym is)
    (subst (λ (z : Sizes). IsSize (serving_site words.site) z words.lanes count count quotas) (sym asked)
    (subst (λ (n : ℕ). IsSize (serving_site words.site) (sizes_asked words) words.lanes n n quotas) (sym many.boxes)
    (subst (λ (n : ℕ). IsSize (serving_site words.site) (sizes_asked words) words.lanes boxes boxes n) (sym many.quotas_too) good)))

-- as many quotas as are asked for
pub as_many : (words : ServeWords) (count : ℕ) (quotas : List (Option ℕ)) → count ≡ length words.site.boxes.items → quotas ≡ quotas_asked words
    → AreAsMany words count (length quotas)
as_many words count quotas boxes asked =
    record { boxes = boxes; quotas_too = ap length asked ∙ (length-map words.site.quotas.items (quota_for words.quota) ∙ words.site.matched) }

size_of_sum : {X : Type 0} (x : X) (Good : Type 0) → (◌≡◌ {A = Result X HouseFault} (Ok x) (Err house.Size)) ⊎ Good → Good
size_of_sum x Good (inl e) = cc
size_of_sum x Good (inr good) = good

-- what a server is run with, part by part
abbrev serving_with : {E : Type 0} → ServerSocket → Sizes → List (Option ℕ) → Conversations E → Bool → Serving ServerSocket E
serving_with socket sizes quotas conversations addresses = record {
  sizes = sizes;
  quotas = quotas;
  conversations = conversations;
  listener = socket;
  addresses = addresses;
}

pub serving_is : {C : Type 0} (words : ServeWords) (socket : ServerSocket) (curfew : Arc (ServerCurfew C) Global) (slow : Arc SlowBoxes Global) (sizes : Sizes)
    (quotas : List (Option ℕ)) (conversations : Conversations (ServerCurfew C)) (addresses : Bool)
    → sizes ≡ sizes_asked words → quotas ≡ quotas_asked words → conversations ≡ conversations_asked words curfew slow → addresses ≡ words.log_addresses
    → serving_with socket sizes quotas conversations addresses ≡ serving_asked words socket curfew slow
serving_is {C} words socket curfew slow sizes quotas conversations addresses a b c d =
    ap (λ (z : Sizes). serving_with socket z quotas conversations addresses) a
    ∙ ap (λ (qs : List (Option ℕ)). serving_with socket (sizes_asked words) qs conversations addresses) b
    ∙ ap (λ (held : Conversations (ServerCurfew C)). serving_with socket (sizes_asked words) (quotas_asked words) held addresses) c
    ∙ ap (λ (t : Bool). serving_with socket (sizes_asked words) (quotas_asked words) (conversations_asked words curfew slow) t) d

-- as many lanes as the words ask for
lanes_asked : {C : Type 0} (words : ServeWords) (socket : ServerSocket) (curfew : Arc (ServerCurfew C) Global) (slow : Arc SlowBoxes Global)
    (serving : Serving ServerSocket (ServerCurfew C)) → serving ≡ serving_asked words socket curfew slow → serving.conversations.lanes ≡ words.lanes
lanes_asked words socket curfew slow serving asked = ap (λ s. s.conversations.lanes) asked

pub served_as_asked : (C : Type 0) {G S : Type 0} (told : G → Option (List Entry)) (shows : G → LogLines) (view : SpoolsView S) (held : S → Held)
    (words : ServeWords) (before after : Option (List ℕ)) (served : Served) (site : Site) (serving : Serving ServerSocket (ServerCurfew C)) (opened : Opened)
    (curfew : Arc (ServerCurfew C) Global) (slow : Arc SlowBoxes Global) (spools : List S)
    → words.check_words ≡ false
    → IsListenedAt words opened → (site ≡ serving_site words.site) × (site_fault words.site ≡ None)
    → serving ≡ serving_asked words opened.socket curfew slow
    → (length spools ≡ length words.site.boxes.items) × (map held spools ≡ mailboxes_asked words)
    × AllByRecursion (λ spool. IfSome (view.told spool) (λ ends. ends ≡ [])) spools
    → IsCurfewOf (ends_asked words) (arc_value curfew)
    → (◌≡◌ {A = Result Served HouseFault} (Ok served) (Err house.Size))
    ⊎ IsSize site serving.sizes serving.conversations.lanes (length spools) (length spools) (length serving.quotas)
    → IsServerRun site view told shows serving spools before after served
    → IsServedAsAsked C told shows view held words before after served
served_as_asked C told shows view held words before after served site serving opened curfew slow spools serves listens made asked boxes ends good ran = record {
  serves = serves;
  opened = opened;
  listens = listens;
  sound = made.1;
  sizes = size_asked words site serving.sizes (length spools) (length serving.quotas) made.0 (ap (λ s. s.sizes) asked)
      (as_many words (length spools) serving.quotas boxes.0 (ap (λ s. s.quotas) asked))
      (subst (λ (n : ℕ). IsSize site serving.sizes n (length spools) (length spools) (length serving.quotas)) (lanes_asked words opened.socket curfew slow serving asked)
      (size_of_sum served (IsSize site serving.sizes serving.conversations.lanes (length spools) (length spools) (length serving.quotas)) good));
  curfew = curfew;
  ends = ends;
  slow = slow;
  spools = spools;
  each_box = boxes.0;
  mailboxes = boxes.1;
  untold = boxes.2;
  ran =
      let R : Site → Serving ServerSocket (ServerCurfew C) → Type 0 = λ s z. IsServerRun s view told shows z spools before after served in
      subst (λ z. R (serving_site words.site) z) asked (subst (λ s. R s serving) made.0 ran);
}

no_server_of : (words : ServeWords) (cause : HouseFault) (site : Site) (sizes : Sizes) (count quotas : ℕ)
    → words.check_words ≡ false
    → IsListenAddress words.listen.now → (site ≡ serving_site words.site) × (site_fault words.site ≡ None) → sizes ≡ sizes_asked words
    → AreAsMany words count quotas
    → (◌≡◌ {A = Result Served HouseFault} (Err cause) (Err house.Size) → IsSize site sizes words.lanes count count quotas → ⊥)
    → (◌≡◌ {A = Result Served HouseFault} (Err cause) (Err house.Size)) ⊎ IsSize site sizes words.lanes count count quotas
    → IsNotServed words (stop.Fault (house_refusal cause))
no_server_of words cause site sizes count quotas served address made asked boxes only (inl e) =
    not_run words cause served address made.1 (unrun (IsSizeAsked words) cause (inr (λ good. only e (size_given words site sizes count quotas made.0 asked boxes good)))
    (λ f good. only (ap Err f) (size_given words site sizes count quotas made.0 asked boxes good))
    (λ bad. causes {X = Served} cause house.Size house.Memory (inl e)))
no_server_of words cause site sizes count quotas served address made asked boxes only (inr good) =
    not_run words cause served address made.1 (unrun (IsSizeAsked words) cause (inl (size_asked words site sizes count quotas made.0 asked boxes good))
    (λ f asks. only (ap Err f) (size_given words site sizes count quotas made.0 asked boxes asks))
    (λ bad. absurd (bad (size_asked words site sizes count quotas made.0 asked boxes good))))

-- a server of that many lanes
pub no_server : (words : ServeWords) (lanes : ℕ) (cause : HouseFault) (site : Site) (sizes : Sizes) (count quotas : ℕ)
    → lanes ≡ words.lanes → words.check_words ≡ false
    → IsListenAddress words.listen.now → (site ≡ serving_site words.site) × (site_fault words.site ≡ None) → sizes ≡ sizes_asked words
    → AreAsMany words count quotas
    → (◌≡◌ {A = Result Served HouseFault} (Err cause) (Err house.Size) → IsSize site sizes lanes count count quotas → ⊥)
    → (◌≡◌ {A = Result Served HouseFault} (Err cause) (Err house.Size)) ⊎ IsSize site sizes lanes count count quotas
    → IsNotServed words (stop.Fault (house_refusal cause))
no_server words lanes cause site sizes count quotas same served address made asked boxes only good =
    no_server_of words cause site sizes count quotas served address made asked boxes
    (λ e sized. only e (subst (λ (n : ℕ). IsSize site sizes n count count quotas) (sym same) sized))
    (subst (λ (n : ℕ). (◌≡◌ {A = Result Served HouseFault} (Err cause) (Err house.Size)) ⊎ IsSize site sizes n count count quotas) same good)

-- the words alone were to be checked: its sizes are within their limits, or they aren't
pub sized_or_not : (words : ServeWords) (site : Site) (count : ℕ) (r : Result (Unit {0}) Stop) → words.check_words ≡ true
    → IsListenAddress words.listen.now → site_fault words.site ≡ None → site ≡ serving_site words.site → count ≡ length words.site.boxes.items
    → MatchResult r (λ _. IsSize site (sizes_asked words) words.lanes count count count)
    (λ s. (s ≡ stop.Fault fault.Size) × (IsSize site (sizes_asked words) words.lanes count count count → ⊥))
    → MatchResult r (λ _. AreServeWords words) (IsNotServed words)
sized_or_not words site count (Ok done) checked address sound is boxes good = record {
  asked = checked;
  listen_address = address;
  sound = sound;
  sizes = size_asked words site (sizes_asked words) count count is refl (record { boxes = boxes; quotas_too = boxes }) good;
}
sized_or_not words site count (Err s) checked address sound is boxes bad =
    subst (λ x. IsNotServed words x) (sym bad.0)
    (inr (inr (address, inr (sound, inr (checked, (refl, λ good. bad.1 (size_given words site (sizes_asked words) count count is refl (record { boxes = boxes; quotas_too = boxes }) good)))))))

-- it has no site
pub siteless : (words : ServeWords) (s : Stop) → IsListenAddress words.listen.now → IsNoSite words s → IsNotServed words s
siteless words s address (inl memory) = inl memory
siteless words s address (inr (f, fault_of_site, said)) = inr (inr (address, inl (f, fault_of_site, said)))

-- it wasn't set up
pub unset : (words : ServeWords) (s : Stop) → words.check_words ≡ false → IsListenAddress words.listen.now → IsNotSetUp words s → IsNotServed words s
unset words s served address (inl none) = siteless words s address none
unset words s served address (inr (inl memory)) = inl memory
unset words (stop.Unopened name suffix) served address (inr (inr (sound, named))) = inr (inr (address, inr (sound, inl (served, named))))
unset words (stop.NoFolder name suffix) served address (inr (inr (sound, named))) = inr (inr (address, inr (sound, inl (served, named))))
unset words (stop.Fault f) served address (inr (inr (sound, is))) = inl (ap stop.Fault is)
unset words (stop.Words refused) served address (inr (inr (sound, never))) = absurd never
unset words (stop.Name f line) served address (inr (inr (sound, never))) = absurd never
unset words (stop.Unread path) served address (inr (inr (sound, never))) = absurd never

-- the same where its words alone are checked
pub unset_checked : (words : ServeWords) (s : Stop) → words.check_words ≡ true → IsListenAddress words.listen.now → IsNotSetUp words s → IsNotServed words s
unset_checked words s checked address (inl none) = siteless words s address none
unset_checked words s checked address (inr (inl memory)) = inl memory
unset_checked words (stop.Unopened name suffix) checked address (inr (inr (sound, named))) = inr (inr (address, inr (sound, inr (checked, named))))
unset_checked words (stop.NoFolder name suffix) checked address (inr (inr (sound, named))) = inr (inr (address, inr (sound, inr (checked, named))))
unset_checked words (stop.Fault f) checked address (inr (inr (sound, is))) = inl (ap stop.Fault is)
unset_checked words (stop.Words refused) checked address (inr (inr (sound, never))) = absurd never
unset_checked words (stop.Name f line) checked address (inr (inr (sound, never))) = absurd never
unset_checked words (stop.Unread path) checked address (inr (inr (sound, never))) = absurd never

-- what listens wasn't opened
pub unopened : (words : ServeWords) (listen_address : ListenAddress) (f : Fault) → words.check_words ≡ false → Names words.listen.now listen_address
    → site_fault words.site ≡ None
    → IsUnopenedAt listen_address f → IsNotServed words (stop.Fault f)
unopened words listen_address f served names sound (listen.Memory, is, why) = inl (ap stop.Fault is)
unopened words listen_address f served names sound (listen.Listen reason, is, why) =
    inr (inr ((listen_address, names), inr (sound, inl (served, inl is))))
unopened words listen_address f served names sound (listen.Port, is, why) =
    inr (inr ((listen_address, names), inr (sound, inl (served, inr (inl (is, subst (λ p. Names words.listen.now p) why names))))))
unopened words listen_address f served names sound (listen.Address, is, why) = absurd why

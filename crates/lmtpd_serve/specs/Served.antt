-- What a server says on standard output and on standard error, and what its run comes to.
use Rattle.std.specs.Prelude.{◌≡◌, ◌==◌, ◌||◌, ◌<◌, ◌^◌, ℕ, List, [], ◌∷◌, ◌++◌, length, codes, decimal, map}
use Rattle.std.specs.Prelude.{if◌then◌else◌, not, nat_le, Bool, true, false, IfSome, Option}
use Rattle.std.specs.Io.KnownBytes.{Keeps}
use Rattle.std.specs.Arc.{arc_value}
use Rattle.std.specs.List.{AllByRecursion, list_any}
use Rattle.std.specs.Net.Text.{socket_text}
use Rattle.lmtp_lane.specs.declared.tcp.listener.Endpoint.{Endpoint}
use Rattle.lmtp_lane.specs.declared.tcp.listener.Endpoint.TheVariants.{Ip, Unix}
use Rattle.mail_world.specs.Text.{lf}
use Rattle.mail_world.specs.Site.{Site}
use Rattle.lmtp_threads.specs.Works.{SpoolsView, visits_view}
use Rattle.lmtp_threads.specs.declared.watched.Watched.{Watched}
use Rattle.lmtp_threads.specs.declared.tally.Tally.{Tally}
use Rattle.lmtp_house.specs.Handed.{HandedBack}
use Rattle.lmtp_house.specs.House.{HasRun}
use Rattle.lmtp_house.specs.declared.house.sizes.Sizes.{Sizes}
use Rattle.lmtp_lane.specs.TcpVisits.{IsLaneOf, IsNewcomer, connections_left, conversations_ended, has_failed}
use Rattle.lmtp_lane.specs.TcpVisits.{is_over, shares, told_by, was_stopped}
use Rattle.lmtp_lane.specs.declared.tcp.visits.TcpVisits.{TcpVisits}
use Rattle.lmtp_talk.specs.Entries.{Entry}
use Rattle.lmtpd_log.specs.LaneLogs.{LogLines, lines_from}
use Rattle.lmtpd_output.specs.Output.{IsListed, pair_texts}
use Rattle.lmtpd_serve.specs.declared.conversations.Conversations.{Conversations}
use Rattle.lmtpd_serve.specs.declared.lines.TheConstants.{FEW_BOXES}
use Rattle.lmtpd_serve.specs.declared.lines.Trouble.{Trouble}
use Rattle.lmtpd_serve.specs.declared.lines.Trouble.TheVariants.{InUse, OverQuota}
use Rattle.lmtpd_serve.specs.declared.served.Served.{Served}

-- the line that says where the server listens
abbrev pub endpoint_line : Endpoint → List ℕ
endpoint_line (Ip address) = codes "listening on " ++ socket_text address ++ (lf ∷ [])
endpoint_line (Unix path) = codes "listening on unix:" ++ path.now ++ (lf ∷ [])

-- the line of a mailbox, with how many copies it got
abbrev pub count_line : List ℕ → Tally → List ℕ
count_line name tally = name ++ codes " stored " ++ decimal tally.stored ++ (lf ∷ [])

-- each mailbox has its line where there are few of them; where there are more those alone that took a copy
abbrev pub has_line : Bool → Tally → Bool
has_line are_few tally = are_few || not (tally.taken == 0)

abbrev pub count_told : Bool → List ℕ → Tally → List ℕ
count_told are_few name tally = if has_line are_few tally then count_line name tally else []

abbrev pub counts_text : List (List ℕ) → List Tally → List ℕ
counts_text names tallies = pair_texts (count_told (nat_le (length names) FEW_BOXES)) names tallies

-- the copies of a mailbox that an administrator is told of: those whose turn was missed, or those over the quota
abbrev pub trouble_count : Trouble → Tally → ℕ
trouble_count InUse tally = tally.in_use
trouble_count OverQuota tally = tally.over

abbrev pub words_of : Trouble → List ℕ
words_of InUse = codes " in use "
words_of OverQuota = codes " over quota "

-- the line of a mailbox with as many of them
abbrev pub trouble_line : List ℕ → List ℕ → ℕ → List ℕ
trouble_line words name count = codes "lmtpd: " ++ (name ++ words ++ decimal count ++ (lf ∷ []))

-- what is said of a mailbox: its line where there were any, and else nothing
abbrev pub trouble_told : Trouble → List ℕ → Tally → List ℕ
trouble_told trouble name tally =
    if trouble_count trouble tally == 0 then [] else trouble_line (words_of trouble) name (trouble_count trouble tally)

abbrev pub trouble_lines_of : Trouble → Served → List ℕ
trouble_lines_of trouble served = pair_texts (trouble_told trouble) (arc_value served.site).boxes served.tallies.items

abbrev pub trouble_lines : Served → List ℕ
trouble_lines served = trouble_lines_of InUse served ++ trouble_lines_of OverQuota served

-- the text that says where a server listens, where its listener can tell that
abbrev pub IsAnnouncement : Bool → List ℕ → Type 0
IsAnnouncement true text = text ≡ []
IsAnnouncement false text = (endpoint : Endpoint) × (text ≡ endpoint_line endpoint)

-- it was said where the server listens, up to a write that failed, unless its listener can't tell that: then nothing
-- was written
pub record IsAnnounced (unknown : Bool) (before after : Option (List ℕ)) (cut : Bool) : Type 0 where
  pub text : List ℕ
  pub announces : IsAnnouncement unknown text
  pub untried : unknown ≡ true → cut ≡ false
  pub listed : IsListed text before after cut

-- a further text was said, unless a write had failed before
pub record ListsOn (was_cut : Bool) (text : List ℕ) (before after : Option (List ℕ)) (cut : Bool) : Type 0 where
  pub over : was_cut ≡ true → (cut ≡ true) × Keeps before after
  pub listed : was_cut ≡ false → IsListed text before after cut

-- what a server is run with: its sizes, by mailbox its quota, if it has one, its conversations, what it listens on, and
-- whether its lines show addresses
pub record Serving (L E : Type 0) : Type 0 where
  pub sizes : Sizes
  pub quotas : List (Option ℕ)
  pub conversations : Conversations E
  pub listener : L
  pub addresses : Bool

-- The clients of a lane, and its log beside them.
abbrev pub LoggedVisits : Type 0 → Type 0 → Type 0 → Type 0
LoggedVisits L E G = Watched (TcpVisits L E) G

-- The log of each of these lanes was told nothing yet; its lines name that lane by its number, counted from 0, and show
-- addresses just where that is asked for.
pub record HaveLogs {L E G : Type 0} (told : G → Option (List Entry)) (shows : G → LogLines) (addresses : Bool)
    (visits : List (LoggedVisits L E G)) : Type 0 where
  pub shown : map (λ v. shows v.observer) visits ≡ lines_from addresses 0 (length visits)
  pub untold : AllByRecursion (λ v. IfSome (told v.observer) (λ entries. entries ≡ [])) visits

-- The clients of the lanes are those of this listener, within the bounds and until the curfew of the conversations,
-- whose count the lanes share; of none has anything failed or was stopped yet.
pub record AreLanesFor {L E G : Type 0} (listener : L) (conversations : Conversations E)
    (visits : List (LoggedVisits L E G)) : Type 0 where
  pub each : AllByRecursion
      (λ v. IsLaneOf listener conversations.bounds (arc_value conversations.curfew) v.inner) visits
  pub count : length visits ≡ conversations.lanes
  pub share : map (λ v. connections_left v.inner) visits ≡ shares conversations.count conversations.lanes

-- A server ran for the site with what it was to be run with, over clients of its listener, of whom it is told how many
-- were handed back, and these spools; each lane has a log, `told` says what one was told and `shows` which lane
-- its lines name and whether they show addresses, and a lane's log was told the entries of its conversations, as the observer of each spool was of its
-- turns; what is told of each mailbox is what its worker counted, and the server is faulty exactly where a worker is,
-- whose last turn broke; it failed exactly where its listener can't tell where it listens or a lane's accept failed,
-- and was stopped exactly where a lane was; and where it listens and what was stored was said, up to a write that
-- failed.
pub record IsServerRun {L E S G : Type 0} (site : Site) (view : SpoolsView S)
    (told : G → Option (List Entry)) (shows : G → LogLines) (serving : Serving L E) (spools : List S)
    (before after : Option (List ℕ)) (served : Served) : Type 0 where
  pub visits : List (LoggedVisits L E G)
  pub back : HandedBack (LoggedVisits L E G) S
  pub lanes : AreLanesFor serving.listener serving.conversations visits
  pub logs : HaveLogs told shows serving.addresses visits
  pub none_ended : AllByRecursion (λ v. conversations_ended v.inner ≡ 0) visits
  pub ran : HasRun site (λ moment. moment < 2 ^ 32)
      (visits_view (λ _ peer. IsNewcomer peer) told_by is_over told)
      view
      (record {
        visits = visits;
        spools = spools;
        capacity = serving.sizes.capacity;
        quotas = serving.quotas;
      })
      back
  pub room : (back.blocks ≡ serving.sizes.blocks) × (back.slots ≡ serving.sizes.slots)
  pub same_site : arc_value served.site ≡ site
  pub tallies : served.tallies.items ≡ back.tallies
  pub faulty : served.ending.faulty ≡ list_any (λ tally. tally.faulty) back.tallies
  pub unknown : Bool
  pub failed : served.ending.failed ≡ unknown || list_any (λ v. has_failed v.inner) back.visits
  pub stopped : served.ending.stopped ≡ list_any (λ v. was_stopped v.inner) back.visits
  pub announcement : List ℕ
  pub announces : IsAnnouncement unknown announcement
  pub said : IsListed (announcement ++ counts_text site.boxes back.tallies) before after served.ending.cut

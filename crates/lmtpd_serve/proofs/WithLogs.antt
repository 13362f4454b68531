-- The clients of lanes with a log beside each: what holds of the logs holds of these.
use Rattle.std.proofs.Common.{◌≡◌, ◌∙◌, ℕ, List, [], Bool, IfSome, Option, ap, length, map, subst, sym}
use Rattle.std.specs.List.{AllByRecursion}
use Rattle.lmtp_talk.specs.Entries.{Entry}
use Rattle.lmtpd_log.specs.LaneLogs.{LogLines, lines_from}
use Rattle.lmtpd_serve.specs.Served.{HaveLogs, LoggedVisits}
use Rattle.lmtpd_serve.proofs.Unmapped.{all_unmapped, unmapped}

pub have_logs : {L E G : Type 0} (told : G → Option (List Entry)) (shows : G → LogLines) (addresses : Bool) (lanes : ℕ)
    (made : List (LoggedVisits L E G)) (logs : List G) → map (λ v. v.observer) made ≡ logs → length made ≡ lanes
    → map (λ log. shows log) logs ≡ lines_from addresses 0 lanes
    → AllByRecursion (λ log. IfSome (told log) (λ entries. entries ≡ [])) logs → HaveLogs told shows addresses made
have_logs {L} {E} {G} told shows addresses lanes made logs are count shown untold =
    let Untold : G → Type 0 = λ log. IfSome (told log) (λ entries. entries ≡ []) in
    record {
      shown = unmapped shows (λ v. v.observer) made ∙ ap (map shows) are ∙ shown ∙ ap (lines_from addresses 0) (sym count);
      untold = all_unmapped Untold (λ v. v.observer) made (subst (λ l. AllByRecursion Untold l) (sym are) untold);
    }

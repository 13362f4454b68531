use Rattle.std.proofs.Common.{◌≡◌, ◌∙◌, ap, false, length, map, subst, sym}
use Rattle.std.proofs.lemmas.List.{length-map}
use Rattle.std.specs.List.{AllByRecursion}
use Rattle.std.specs.Arc.{arc_value}
use Rattle.lmtp_lane.specs.TcpVisits.{IsLaneOf, connections_left, conversations_ended, is_out}
use Rattle.lmtpd_serve.proofs.Unmapped.{all_unmapped, unmapped}
use Rattle.lmtpd_serve.proofs.WithLogs.{have_logs}
use Rattle.lmtpd_serve.proofs.run.visits_of.Goals as goal

pub returns-clause-lanes : goal.returns-clause-lanes
returns-clause-lanes g c =
    let P = IsLaneOf c.args.listener c.args.conversations.bounds (arc_value c.args.conversations.curfew) in
    let made = c.in_ok-logged.logged.items in
    record {
      each = all_unmapped P (λ w. w.inner) made (subst (AllByRecursion P) (sym c.in_ok-logged.ensures.things) c.in_ok-visits.ensures.each);
      count = sym (length-map made (λ w. w.inner)) ∙ ap length c.in_ok-logged.ensures.things ∙ c.in_ok-visits.ensures.count;
      share = unmapped connections_left (λ w. w.inner) made ∙ ap (map connections_left) c.in_ok-logged.ensures.things ∙ c.in_ok-visits.ensures.shares;
    }

pub returns-clause-none_ended : goal.returns-clause-none_ended
returns-clause-none_ended g c =
    all_unmapped (λ v. conversations_ended v ≡ 0) (λ w. w.inner) c.in_ok-logged.logged.items
    (subst (AllByRecursion (λ v. conversations_ended v ≡ 0)) (sym c.in_ok-logged.ensures.things) c.in_ok-visits.ensures.none_ended)

pub returns-clause-none_out : goal.returns-clause-none_out
returns-clause-none_out g c =
    all_unmapped (λ v. is_out v ≡ false) (λ w. w.inner) c.in_ok-logged.logged.items
    (subst (AllByRecursion (λ v. is_out v ≡ false)) (sym c.in_ok-logged.ensures.things) c.in_ok-visits.ensures.none_out)

pub returns-clause-logs : goal.returns-clause-logs
returns-clause-logs g c =
    let made = c.in_ok-logged.logged.items in
    let count = sym (length-map made (λ w. w.inner)) ∙ ap length c.in_ok-logged.ensures.things ∙ c.in_ok-visits.ensures.count in
    have_logs g.G.Log.Observer.told g.G.Log.LaneLog.lines (g.G.LaneLogs.addresses c.args.logs.now) c.args.conversations.lanes made c.in_ok-logs.logs.items
    c.in_ok-logged.ensures.observers count c.in_ok-logs.ensures.lines c.in_ok-logs.ensures.untold

use Rattle.std.proofs.Common.{◌≡◌, ◌≤◌, Err, ap, rules, arith, subst, sym}
use Rattle.lmtp_house.specs.declared.house.fault.HouseFault.TheVariants as house
use Rattle.mail_world.specs.declared.limits.TheConstants.{LANE_LIMIT}
use Rattle.std.specs.Arc.{arc_value}
use Rattle.mail_world.specs.Site.{Site}
use Rattle.lmtpd_serve.specs.Served.{ListsOn, counts_text}
use Rattle.lmtpd_serve.proofs.Said.{said_on}
use Rattle.lmtpd_serve.proofs.run.run_sized.Goals as goal

pub returns-clause-ran : goal.returns-clause-ran
returns-clause-ran g c = record {
  visits = c.in_ok-gates.field-0.visits.items;
  back = c.in-Ok.report;
  lanes = c.in_ok-gates.ensures.lanes;
  logs = c.in_ok-gates.ensures.logs;
  none_ended = c.in_ok-gates.ensures.none_ended;
  ran = c.in-Ok.ensures.ran;
  room = c.in-Ok.ensures.room;
  same_site = search rules;
  tallies = c.served_by.ensures.tallies;
  faulty = c.served_by.ensures.faulty;
  unknown = c.in_ok-gates.field-0.announced.is_unknown;
  failed = c.served_by.ensures.failed;
  stopped = c.served_by.ensures.stopped;
  announcement = c.in_ok-gates.ensures.announced.text;
  announces = c.in_ok-gates.ensures.announced.announces;
  said =
      let before = g.W.Write.contents c.args.writer.now in
      let between = g.W.Write.contents c.prepare.new.writer in
      let after = g.W.Write.contents c.served_by.new.writer in
      let tallies = c.in-Ok.report.tallies in
      let announced = c.in_ok-gates.field-0.announced in
      let cut = c.served_by.result.ending.cut in
      said_on announced.is_unknown announced.is_cut cut before between after (counts_text (arc_value c.args.house.site).boxes tallies)
      c.in_ok-gates.ensures.announced
      (subst (λ (s : Site). ListsOn announced.is_cut (counts_text s.boxes tallies) between after cut) c.in_ok-served_site.ensures c.served_by.ensures.said);
}

pub returns-in-Err-clause-sized : goal.returns-in-Err-clause-sized
returns-in-Err-clause-sized g c e =
    let lanes = c.in_ok-gates.ensures.lanes.count in
    let gates = c.in_ok-gates.ensures.gates in
    let same : c.in-Err.fault ≡ house.Size = cc in
    c.in-Err.ensures.size.0 (ap Err same) (record {
      blocks = c.requires.blocks;
      slots = c.requires.slots;
      capacity = c.requires.capacity;
      some_lanes = subst (λ n. (1 ≤ n) × (n ≤ LANE_LIMIT)) (sym lanes) c.requires.some_lanes;
      each_spool = c.requires.each_spool;
      each_gate = omega (arith, gates, c.len.ensures, c.requires.each_gate);
      each_quota = c.requires.each_quota;
    })

use Rattle.std.proofs.Common.{rules, arith, ◌≡◌, min, length, ap, sym, ◌∙◌, subst, vec_items, vec_len}
use Rattle.std.specs.List.{AllByRecursion}
use Rattle.std.specs.Arc.{arc_value}
use Rattle.std.proofs.lemmas.List.{length-map}
use Rattle.lmtp_threads.specs.Works.{share_of}
use Rattle.lmtp_threads.specs.Grid.{lists}
use Rattle.lmtp_threads.specs.Tasks.{thread_tasks}
use Rattle.lmtp_threads.specs.ByThread.{IsOwner, AreTasksOf, tasks_with}
use Rattle.lmtp_threads.proofs.ByThread.{jobs_same, each_owner, tasks_of}
use Rattle.lmtp_threads.proofs.workers.Workers.new.Goals.{In_ok-jobs}
use Rattle.lmtp_threads.proofs.workers.Workers.new.Goals as goal

module _ (g : _) (c : In_ok-jobs g) where
  few : length (vec_items c.args.receivers) ≡ min (length (vec_items c.args.spools)) 256
  few =
      let m : vec_len c.args.receivers ≡ min (vec_len c.args.spools) 256 = c.requires.threads in
      omega (arith, m, c.args.receivers.ok.0, c.args.spools.ok.0)

  rows : length (lists (vec_items c.args.rows)) ≡ length (vec_items c.args.receivers)
  rows = length-map (vec_items c.args.rows) (λ v. vec_items v) ∙ omega (arith, c.requires.rows, c.args.rows.ok.0, c.args.receivers.ok.0)

  quotas_are : arc_value c.in_ok-quotas.quotas ≡ vec_items c.args.quotas
  quotas_are = c.in_ok-quotas.ensures.ok ∙ c.new.ensures

  jobs_are : vec_items c.in_ok-jobs.jobs
      ≡ thread_tasks (share_of (arc_value c.args.shared.now.site) (vec_items c.args.quotas)) c.args.room 0 (vec_items c.args.receivers) (lists (vec_items c.args.rows)) (vec_items c.args.spools)
  jobs_are =
      c.in_ok-jobs.ensures
      ∙ ap (λ quotas. tasks_with (share_of (arc_value c.args.shared.now.site) quotas) c.args.room 0 (vec_items c.args.receivers) (lists (vec_items c.args.rows))
      (lists (vec_items c.in_ok-boxes.boxes))) quotas_are
      ∙ jobs_same (share_of (arc_value c.args.shared.now.site) (vec_items c.args.quotas)) c.args.room c.len-threads.result (vec_items c.args.receivers) (lists (vec_items c.args.rows))
      (lists (vec_items c.in_ok-boxes.boxes)) (vec_items c.args.spools) c.in_ok-boxes.ensures (c.len-threads.ensures ∙ c.args.receivers.ok.0)
      (c.len-threads.ensures ∙ (c.args.receivers.ok.0 ∙ few))

  owners : AllByRecursion IsOwner (vec_items c.in_ok-jobs.jobs)
  owners =
      subst (AllByRecursion IsOwner) (sym jobs_are) (each_owner (share_of (arc_value c.args.shared.now.site) (vec_items c.args.quotas)) c.args.room 0 (vec_items c.args.receivers)
      (lists (vec_items c.args.rows)) (vec_items c.args.spools) (omega (arith, few)))

  counted : AreTasksOf c.len-count.result (vec_items c.in_ok-jobs.jobs)
  counted =
      let many : length (vec_items c.args.spools) ≡ c.len-count.result = sym (c.len-count.ensures ∙ c.args.spools.ok.0) in
      subst (λ n. AreTasksOf n (vec_items c.in_ok-jobs.jobs)) many (subst (AreTasksOf (length (vec_items c.args.spools))) (sym jobs_are)
      (tasks_of (share_of (arc_value c.args.shared.now.site) (vec_items c.args.quotas)) c.args.room (vec_items c.args.receivers) (lists (vec_items c.args.rows)) (vec_items c.args.spools)
      rows few))

pub invariant_of-result : goal.invariant_of-result
invariant_of-result g c =
    let e = (goal.at.invariant_of-result g c).In_ok-jobs in
    (search rules, search rules, search rules, owners g e, counted g e)

pub returns : goal.returns
returns g c = jobs_are g (goal.at.returns g c).In_ok-jobs

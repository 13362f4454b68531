use Rattle.std.proofs.Common.{◌≡◌, ◌∙◌, ◌+◌, [], ◌∷◌, ◌++◌, List, Bool, ℕ, suc, zero, ap, arith, map, sym, rules}
use Rattle.std.proofs.lemmas.List.{map-append}
use Rattle.std.specs.List.{AllByRecursion}
use Rattle.lmtpd_log.specs.LaneLogs.{LogLines, lines_from}
use Rattle.lmtpd_log.proofs.lane_log.lane_logs.Goals as goal

all_push : {X : Type 0} (P : X → Type 0) (xs : List X) (x : X) → AllByRecursion P xs → P x → AllByRecursion P (xs ++ x ∷ [])
all_push P [] x all so = (so, tt)
all_push P (y ∷ ys) x all so = (all.0, all_push P ys x all.1 so)

abbrev lines_of : Bool → ℕ → LogLines
lines_of addresses lane = record { lane = lane; addresses = addresses }

-- one lane more has the next number
one_more : (addresses : Bool) (lane count : ℕ)
    → lines_from addresses lane (suc count) ≡ lines_from addresses lane count ++ lines_of addresses (lane + count) ∷ []
one_more addresses lane zero = let same : lane ≡ lane + 0 = omega arith in ap (λ n. lines_of addresses n ∷ []) same
one_more addresses lane (suc count) =
    let same : suc lane + count ≡ lane + suc count = omega arith in
    ap (λ l. lines_of addresses lane ∷ l) (one_more addresses (suc lane) count)
    ∙ ap (λ n. lines_of addresses lane ∷ (lines_from addresses (suc lane) count ++ lines_of addresses n ∷ [])) same

next_lane : (addresses : Bool) (lane : ℕ) → lines_from addresses 0 (lane + 1) ≡ lines_from addresses 0 lane ++ lines_of addresses lane ∷ []
next_lane addresses lane =
    let next : lane + 1 ≡ suc lane = omega arith in
    let same : 0 + lane ≡ lane = omega arith in
    ap (lines_from addresses 0) next ∙ one_more addresses 0 lane ∙ ap (λ n. lines_from addresses 0 lane ++ lines_of addresses n ∷ []) same

pub loop-lane-preserved : goal.loop-lane-preserved
loop-lane-preserved g c = record {
  count = search rules;
  lines =
      let shown = g.M.Log.LaneLog.lines in
      ap (map shown) c.in_ok-push.ensures.items ∙ map-append shown c.loop-lane.made.items (c.in_ok-log.field-0 ∷ [])
      ∙ (λ i. c.loop-lane.invariant.lines i ++ c.in_ok-log.ensures.lines i ∷ [])
      ∙ sym (next_lane (g.M.LaneLogs.addresses c.args.logs.now) c.loop-lane.lane);
  untold = search (rules, all_push);
}

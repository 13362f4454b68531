use Rattle.std.proofs.Common.{◌≡◌, map, take}
use Rattle.lmtpd_words.specs.Quotas.{quota_for}
use Rattle.lmtpd_words.proofs.words.SiteWords.quotas_for.Given as goal

abbrev pub invariant-loop-own : goal.invariant-loop-own
invariant-loop-own l = l.all.items ≡ map (quota_for l.asked) (take l.own-index l.own-items)

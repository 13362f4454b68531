use Rattle.std.proofs.Common.{◌∙◌, ap₂, refl, arith}
use Rattle.clap.specs.Simple.{app_of, with_rule}
use Rattle.lmtpd_words.proofs.ArgumentRows.{one_more}
use Rattle.lmtpd_words.proofs.command.with_arguments.Goals as goal

pub loop-argument-preserved : goal.loop-argument-preserved
loop-argument-preserved c =
    let added = c.in_ok-command.ensures in record {
      shape = added.shape c.arg.ensures.local ∙ ap₂ with_rule c.loop-argument.invariant.shape c.arg.ensures.rule
          ∙ one_more (app_of c.args.bare) c.args.arguments.now c.loop-argument.argument-index _ (omega arith);
      local = λ bare. let old = c.loop-argument.invariant.local bare in added.globals ∙ rw (old, c.arg.ensures.local) refl;
    }

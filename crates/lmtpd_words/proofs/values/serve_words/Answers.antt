use Rattle.std.proofs.Common.{◌∙◌, subst, sym, inl, codes}
use Rattle.std.specs.Prelude.{MatchOption}
use Rattle.clap.specs.Words.{found_of, rows_of}
use Rattle.clap.proofs.WalkLemmas.{first_value-rows}
use Rattle.lmtpd_words.specs.Words.{IsSiteRead, LacksSite}
use Rattle.lmtpd_words.proofs.values.serve_words.Goals as goal

pub returns-in_default : goal.returns-in_default
returns-in_default c = inl (sym (first_value-rows (found_of c.args.matches.now) (codes "listen")) ∙ sym c.in_default.ensures)

pub returns : goal.returns
returns c =
    let f = found_of c.args.matches.now in record {
      site = subst (λ read. MatchOption read (LacksSite (rows_of f)) (IsSiteRead (rows_of f))) c.in-Some-2.is c.in_ok-site.ensures;
      listen = sym (first_value-rows f (codes "listen")) ∙ sym c.in-Some.ensures;
      dir = c.in-Some-Some.ensures;
      lanes = c.number_or-lanes.ensures;
      blocks = c.blocks_of.ensures;
      capacity = c.number_or.ensures;
      reads = c.number_or-2.ensures;
      timeout = c.number_or-3.ensures;
      session_time = c.number_or-4.ensures;
      bad_commands = c.number_or-5.ensures;
      log = c.in-Some-Some-2.ensures';
      log_addresses = c.is_given.ensures;
      quota = c.quota_of.ensures;
      lock_wait = c.number_or-6.ensures;
      mailbox_mode = c.in-Some-Some-3.ensures;
      socket_mode = c.in-Some-Some-3.ensures';
      connections = c.in-Some-Some.ensures';
      stop_file = c.in-Some-Some-2.ensures;
      start_anyway = c.is_given-2.ensures;
      check_words = c.is_given-3.ensures;
    }

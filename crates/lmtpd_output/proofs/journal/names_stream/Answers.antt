use Rattle.std.proofs.Common.{◌≡◌, ◌++◌, decimal}
use Rattle.std.specs.Prelude.{Decides}
use Rattle.std.proofs.lemmas.Bool.Decides.{Decides-eqb}
use Rattle.std.proofs.lemmas.Slice.Eq.{slice_eq-Decides}
use Rattle.lmtpd_output.proofs.Streams.{is_named, is_not_named}
use Rattle.lmtpd_output.proofs.journal.names_stream.Goals as goal

pub returns-in-Some-after : goal.returns-in-Some-after
returns-in-Some-after c =
    let begins : c.args.text.now ≡ decimal c.args.device ++ c.in-Some.rest.now =
    rw (c.as_bytes.ensures.value, c.format.ensures.text) at c.in-Some.ensures in
    let decides : Decides c.eq.result (c.in-Some-after.rest.now ≡ decimal c.args.inode) =
    rw (c.as_bytes-in-Some-after.ensures.value, c.format-in-Some-after.ensures.text) at
    (slice_eq-Decides Decides-eqb c.in-Some-after.rest.now c.as_bytes-in-Some-after.result.now c.eq.result c.eq.ensures) in
    is_named c.args.text.now (decimal c.args.device) (decimal c.args.inode) c.in-Some.rest.now begins c.in-Some-after.rest.now c.eq.result
    c.in-Some-after.ensures decides

pub returns-in-None-after : goal.returns-in-None-after
returns-in-None-after c =
    let begins : c.args.text.now ≡ decimal c.args.device ++ c.in-Some.rest.now =
    rw (c.as_bytes.ensures.value, c.format.ensures.text) at c.in-Some.ensures in
    (λ t. cc, λ e. absurd (is_not_named c.args.text.now (decimal c.args.device) (decimal c.args.inode) c.in-Some.rest.now begins c.in-None-after.ensures e))

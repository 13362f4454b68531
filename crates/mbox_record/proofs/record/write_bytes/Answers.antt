use Rattle.std.proofs.Common.{◌≡◌, drop, ◌∙◌, refl}
use Rattle.std.proofs.lemmas.List.{take_rest}
use Rattle.mbox_spool.proofs.Taken.{OnErr-any}
use Rattle.mbox_record.proofs.Written.{begins, up_to, up_to_fails, with_was, with_was_fails, looks_on, holds}
use Rattle.mbox_record.proofs.record.write_bytes.Goals as goal

pub loop-found-init : goal.loop-found-init
loop-found-init g c = begins _ c.args.quoted c.args.place c.args.bytes.now c.find_mark-found.result c.find_mark-found.ensures

pub returns-in_err-quoted-clause-err : goal.returns-in_err-quoted-clause-err
returns-in_err-quoted-clause-err g c = OnErr-any c.from_residual.result (
    up_to_fails _ _ _ c.args.quoted c.args.place c.args.bytes.now c.loop-found.quoted c.loop-found.rest.now c.loop-found.found
    c.loop-found.invariant c.in_err-quoted.ensures.err
    )

pub returns-in_err-quoted-2-clause-err : goal.returns-in_err-quoted-2-clause-err
returns-in_err-quoted-2-clause-err g c = OnErr-any c.from_residual-in_err-quoted-2.result (
    let found = c.loop-found.found in
    let rest = c.loop-found.rest.now in
    with_was_fails _ _ _ c.args.quoted c.args.place c.args.bytes.now c.in_ok-quoted.quoted rest found
    (up_to _ _ _ c.args.quoted c.args.place c.args.bytes.now c.loop-found.quoted rest found c.loop-found.invariant c.in_ok-quoted.quoted c.in_ok-quoted.ensures.ok)
    c.loop-found-test.true (c.loop-found.invariant.inside c.loop-found-test.true) c.in_err-quoted-2.ensures.err
    )

pub loop-found-preserved : goal.loop-found-preserved
loop-found-preserved g c =
    let found = c.loop-found.found in
    let rest = c.loop-found.rest.now in
    looks_on _ _ c.args.quoted c.args.place c.args.bytes.now c.in_ok-quoted-2.quoted rest found.at c.find_mark-found-in-loop-found.result
    (with_was _ _ _ c.args.quoted c.args.place c.args.bytes.now c.in_ok-quoted.quoted rest found
    (up_to _ _ _ c.args.quoted c.args.place c.args.bytes.now c.loop-found.quoted rest found c.loop-found.invariant c.in_ok-quoted.quoted c.in_ok-quoted.ensures.ok)
    c.loop-found-test.true (c.loop-found.invariant.inside c.loop-found-test.true) c.in_ok-quoted-2.quoted c.in_ok-quoted-2.ensures.ok)
    c.find_mark-found-in-loop-found.ensures

pub returns-in_err-quoted-3-clause-err : goal.returns-in_err-quoted-3-clause-err
returns-in_err-quoted-3-clause-err g c = OnErr-any c.from_residual-in_err-quoted-3.result (
    up_to_fails _ _ _ c.args.quoted c.args.place c.args.bytes.now c.loop-found.quoted c.loop-found.rest.now c.loop-found.found
    c.loop-found.invariant c.in_err-quoted-3.ensures.err
    )

pub returns-clause-ok : goal.returns-clause-ok
returns-clause-ok g c =
    let found = c.loop-found.found in
    let rest = c.loop-found.rest.now in
    let last = c.in_ok-quoted-3.quoted in
    let held : c.of.result ≡ drop found.at rest = c.of.ensures ∙ take_rest rest found.at in
    holds _ _ _ c.args.quoted c.args.place c.args.bytes.now c.loop-found.quoted rest found c.loop-found.invariant last c.loop-found-test.false
    (up_to _ _ _ c.args.quoted c.args.place c.args.bytes.now c.loop-found.quoted rest found c.loop-found.invariant last c.in_ok-quoted-3.ensures.ok)
    (record { quoted = last; place = found.place; held = c.of.result }) refl refl held

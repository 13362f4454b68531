use Rattle.std.proofs.Common.{rules, ◌≡◌, ◌<◌, length, drop, Result, Ok, Err}
use Rattle.std.specs.Result.{IfOk}
use Rattle.mbox_record.specs.Writing.{Writer}
use Rattle.mbox_record.proofs.Onward.{Writes-then, Fails-then}
use Rattle.mbox_spool.proofs.Taken.{OnErr-any, OnErr-map}
use Rattle.mbox_record.proofs.Written.{one_more, writes_held, fails_held, next_rest, none_held}
use Rattle.mbox_record.proofs.record.RecordWriter.piece.Goals as goal

ok_map : {T E : Type 0} (r : Result T E) (A B : T → Type 0) → ((x : T) → A x → B x) → IfOk r A → IfOk r B
ok_map (Ok x) A B f a = f x a
ok_map (Err e) A B f a = tt

pub loop-rest-preserved : goal.loop-rest-preserved
loop-rest-preserved g c =
    let writer : Writer = record { quoted = c.writer.inside.quoted; place = c.writer.inside.place; held = c.writer.inside.held } in
    let rest = c.loop-rest.rest.now in
    let some : 0 < length rest = search rules in
    let writes = rw c.as_slice.ensures at c.in_ok-writer.ensures.ok in
    next_rest _ _ _ c.in_ok-writer.writer rest 1
    (writes_held _ _ _ _ writer.quoted writer.place c.with-held.result (drop 1 rest) c.in_ok-writer.writer
    (one_more _ _ _ writer c.loop-rest.writer rest c.with-held.result c.writer.view_is some c.with-held.ensures c.loop-rest.invariant)
    writes)

pub returns-in_err-writer-clause-err : goal.returns-in_err-writer-clause-err
returns-in_err-writer-clause-err g c =
    let writer : Writer = record { quoted = c.writer.inside.quoted; place = c.writer.inside.place; held = c.writer.inside.held } in
    let rest = c.loop-rest.rest.now in
    let some : 0 < length rest = search rules in
    let fails = rw c.as_slice.ensures at c.in_err-writer.ensures.err in OnErr-any c.from_residual.result (
    fails_held _ _ _ _ writer.quoted writer.place c.with-held.result (drop 1 rest)
    (one_more _ _ _ writer c.loop-rest.writer rest c.with-held.result c.writer.view_is some c.with-held.ensures c.loop-rest.invariant)
    fails
    )

pub returns-then-is_empty-clause-ok : goal.returns-then-is_empty-clause-ok
returns-then-is_empty-clause-ok g c =
    let writer : Writer = record { quoted = c.writer.inside.quoted; place = c.writer.inside.place; held = c.writer.inside.held } in
    let none : length writer.held ≡ 0 = search rules in
    ok_map c.write_bytes.result _ _
    (λ next x. Writes-then _ _ _ _ _ _ (none_held _ _ _ writer c.loop-rest.writer c.loop-rest.rest.now c.writer.view_is none c.loop-rest.invariant) x)
    c.write_bytes.ensures.ok

pub returns-then-is_empty-clause-err : goal.returns-then-is_empty-clause-err
returns-then-is_empty-clause-err g c =
    let writer : Writer = record { quoted = c.writer.inside.quoted; place = c.writer.inside.place; held = c.writer.inside.held } in
    let none : length writer.held ≡ 0 = search rules in
    OnErr-map c.write_bytes.result
    (λ x. Fails-then _ _ _ _ _ (none_held _ _ _ writer c.loop-rest.writer c.loop-rest.rest.now c.writer.view_is none c.loop-rest.invariant) x)
    c.write_bytes.ensures.err

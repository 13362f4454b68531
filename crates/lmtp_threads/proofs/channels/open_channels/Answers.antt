use Rattle.std.proofs.Common.{arith, length, ap, sym, ◌∙◌, vec_items}
use Rattle.std.proofs.lemmas.List.{length-map}
use Rattle.lmtp_threads.specs.Channels.{IsNewChannel}
use Rattle.lmtp_threads.specs.Grid.{lists}
use Rattle.lmtp_threads.proofs.Pairs.{AllZip-get, AllZip-length}
use Rattle.lmtp_threads.proofs.ChannelRows.{rows_new, new_count}
use Rattle.lmtp_threads.proofs.channels.open_channels.Goals as goal

pub transpose-requires-clause-widths : goal.transpose-requires-clause-widths
transpose-requires-clause-widths g c k d below =
    let columns = lists (vec_items c.in_ok-columns.columns) in
    let channel = AllZip-get (IsNewChannel c.args.capacity c.args.lanes) columns (vec_items c.in_ok-columns.receivers) k
    c.in_ok-columns.ensures.channels below in
    ap length (channel.left_is d) ∙ (ap length channel.holds.senders_are ∙ (new_count channel.right.channel c.args.lanes ∙ sym c.in_ok-rows.ensures.len))

pub transpose-requires-clause-room : goal.transpose-requires-clause-room
transpose-requires-clause-room g c k d below =
    let same =
    AllZip-length (IsNewChannel c.args.capacity c.args.lanes) (lists (vec_items c.in_ok-columns.columns)) (vec_items c.in_ok-columns.receivers)
    c.in_ok-columns.ensures.channels in
    omega (
      arith,
      c.in_ok-rows.ensures.room k d below,
      same,
      length-map (vec_items c.in_ok-columns.columns) (λ v. vec_items v),
      c.in_ok-columns.columns.ok.0,
      c.in_ok-columns.receivers.ok.0,
      c.in_ok-columns.ensures.count,
    )

pub returns : goal.returns
returns g c =
    let rows = c.transpose.result in
    rows_new c.args.capacity c.args.lanes (lists (vec_items c.in_ok-columns.columns)) (vec_items c.in_ok-columns.receivers)
    c.in_ok-columns.ensures.channels c.args.count (lists (vec_items rows)) c.transpose.ensures.turned
    (length-map (vec_items rows) (λ v. vec_items v) ∙ omega (arith, rows.ok.0, c.transpose.ensures.len, c.in_ok-rows.ensures.len))
    (sym c.in_ok-columns.receivers.ok.0 ∙ c.in_ok-columns.ensures.count)

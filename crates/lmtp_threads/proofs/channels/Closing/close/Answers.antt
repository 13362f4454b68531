use Rattle.std.proofs.Common.{arith, ◌≡◌, ◌<◌, List, ℕ, length, ap, sym, ◌∙◌, vec_items}
use Rattle.std.proofs.lemmas.List.{length-map}
use Rattle.mail_post.specs.Channel.{Channel}
use Rattle.lmtp_threads.specs.Grid.{lists}
use Rattle.lmtp_threads.specs.Channels.{AreRows, AreColumns}
use Rattle.lmtp_threads.proofs.ChannelRows.{turned_back, all_lanes, all_closed, all_times, channels_count}
use Rattle.lmtp_threads.proofs.channels.Closing.close.Goals.{After-transpose}
use Rattle.lmtp_threads.proofs.channels.Closing.close.Goals as goal

module _ (g : _) (c : After-transpose g) where
  -- as many channels as columns
  count : length (lists (vec_items c.transpose.result)) ≡ c.self.inside.count
  count = length-map (vec_items c.transpose.result) (λ v. vec_items v) ∙ omega (arith, c.transpose.result.ok.0, c.transpose.ensures.len, c.self.invariant.0)

  some : 0 < c.self.inside.lanes
  some = omega (arith, c.requires.some, ap (λ s. s.lanes) c.self.view_is)

  columns : (channels : List (Channel _)) (sent : ℕ → ℕ → List _) → AreRows c.args.self.lanes channels sent (lists (vec_items c.args.rows))
      → AreColumns c.args.self.lanes channels sent (lists (vec_items c.transpose.result))
  columns channels sent are =
      turned_back c.args.self.lanes channels sent (lists (vec_items c.args.rows)) (lists (vec_items c.transpose.result)) are c.transpose.ensures.turned
      (count ∙ (ap (λ s. s.count) c.self.view_is
      ∙ (sym c.requires.count ∙ channels_count c.args.self.lanes c.requires.channels channels c.requires.sent sent (lists (vec_items c.args.rows))
      c.requires.some c.requires.rows_are are)))

pub close_columns-requires-clause-senders : goal.close_columns-requires-clause-senders
close_columns-requires-clause-senders g c =
    all_lanes c.args.self.lanes c.requires.channels c.requires.sent (lists (vec_items c.transpose.result)) c.requires.some
    (columns g c c.requires.channels c.requires.sent c.requires.rows_are)

pub returns-clause-sent : goal.returns-clause-sent
returns-clause-sent g c channels sent are =
    let e = (goal.at.returns-clause-sent g c).After-transpose in
    all_closed c.args.self.lanes channels sent (lists (vec_items c.transpose.result)) (vec_items c.close_columns.result) c.requires.some
    (columns g e channels sent are) c.close_columns.ensures

pub returns-clause-times : goal.returns-clause-times
returns-clause-times g c =
    all_times (lists (vec_items c.args.rows)) (lists (vec_items c.transpose.result)) (vec_items c.close_columns.result) c.transpose.ensures.turned
    c.close_columns.ensures

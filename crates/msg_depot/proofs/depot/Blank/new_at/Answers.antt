use Rattle.std.proofs.Common.{◌≡◌, ◌*◌, List, [], length, replicate, rules, sym, ap, ◌∙◌}
use Rattle.std.proofs.lemmas.List.{length-replicate}
use Rattle.mail_world.specs.Depot as d
use Rattle.msg_depot.specs.declared.view.TheConstants.{GENERATION_UNIT}
use Rattle.msg_depot.specs.declared.view.Entry.{Entry}
use Rattle.msg_depot.specs.Rules.{resting, word_of}
use Rattle.msg_depot.proofs.Entries.{new_entries, new_counts}
use Rattle.msg_depot.proofs.KeeperMoves.{opens}
use Rattle.msg_depot.proofs.depot.Blank.new_at.Goals as goal

pub of_words-requires : goal.of_words-requires
of_words-requires c = opens c.as_slice.result.now c.args.slots c.args.generation (search rules) c.requires.generation

pub invariant_of-result : goal.invariant_of-result
invariant_of-result c =
    let b = c.in_ok-board.ensures in
    let a = c.in_ok-arena.ensures in
    let words : length c.as_slice.result.now ≡ word_of c.args.slots =
    ap length (let e : c.as_slice.result.now ≡ replicate (word_of c.args.slots) (c.args.generation * GENERATION_UNIT) = search rules in e)
    ∙ length-replicate (word_of c.args.slots) (c.args.generation * GENERATION_UNIT) in
    record {
      same_table = b.2;
      knows = b.4 ∙ ap (λ (l : List Entry). (resting l, [])) (sym (new_entries c.args.slots c.args.generation _ a.slots));
      long = b.0 ∙ words ∙ ap word_of
          (sym (ap (λ (l : List d.Slot). length l) a.slots ∙ length-replicate c.args.slots (record { generation = c.args.generation; held = d.Free })));
      blocks = c.args.blocks;
      once = a.once;
      counts = new_counts c.args.slots c.args.generation _ a.slots;
    }

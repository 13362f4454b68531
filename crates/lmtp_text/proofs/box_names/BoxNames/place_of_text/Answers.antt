use Rattle.std.proofs.Common.{List, ℕ, ap, ◌∙◌, arith}
use Rattle.std.specs.Prelude.{map, position}
use Rattle.std.specs.Char.{to_ascii_lowercase}
use Rattle.std.specs.Str.{bytes_eq}
use Rattle.mail_world.specs.Commands.{is_word}
use Rattle.lmtp_text.specs.Sites.{owned}
use Rattle.lmtp_text.proofs.BoxPlaces.{place-owned, too_long}
use Rattle.lmtp_text.proofs.box_names.BoxNames.place_of_text.Goals as goal

pub returns-then-text-gt-BOX_NAME_LIMIT-clause-value : goal.returns-then-text-gt-BOX_NAME_LIMIT-clause-value
returns-then-text-gt-BOX_NAME_LIMIT-clause-value c =
    too_long c.args.text.now (owned c.self.inside.set.keys) c.self.invariant (omega (arith, c.if-text-gt-BOX_NAME_LIMIT.true))
    ∙ ap (λ (l : List (List ℕ)). position (λ name. is_word name c.args.text.now) l) c.self.view_is

pub returns-clause-value : goal.returns-clause-value
returns-clause-value c =
    let lower = c.make_ascii_lowercase.ensures.after ∙ ap (map to_ascii_lowercase) c.copy_from_slice.ensures.after in
    let place = place-owned c.args.text.now c.self.inside.set.keys c.self.invariant in
    let named = ap (λ (l : List (List ℕ)). position (λ name. is_word name c.args.text.now) l) c.self.view_is in
    c.get_index_of.ensures.index ∙ ap (λ (l : List ℕ). position (λ name. bytes_eq l name.items) c.self.inside.set.keys) lower ∙ place ∙ named

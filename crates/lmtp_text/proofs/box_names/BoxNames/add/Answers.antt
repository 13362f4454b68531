use Rattle.std.proofs.Common.{List, ℕ, ap, ◌∙◌}
use Rattle.std.specs.Prelude.{not}
use Rattle.std.specs.List.{list_any}
use Rattle.std.specs.Str.{bytes_eq}
use Rattle.mail_world.specs.Site.{has_text}
use Rattle.lmtp_text.proofs.BoxPlaces.{any-has}
use Rattle.lmtp_text.proofs.box_names.BoxNames.add.Goals as goal

pub returns-clause-is_new : goal.returns-clause-is_new
returns-clause-is_new c =
    let keys = c.self.inside.set.keys in
    let name = c.args.name.now in
    c.in_ok-_place.ensures.added
    ∙ ap (λ (v : List ℕ). not (list_any (λ y. bytes_eq v y.items) keys)) (c.in_ok-to_vec.ensures.items_if_clones_equal (λ x y e. e))
    ∙ ap not (any-has keys name) ∙ ap (λ (l : List (List ℕ)). not (has_text l name)) c.self.view_is

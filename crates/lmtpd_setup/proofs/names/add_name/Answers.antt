use Rattle.std.proofs.Common.{List, ℕ, ap, ◌∙◌}
use Rattle.std.specs.Prelude.{not}
use Rattle.std.specs.List.{list_any}
use Rattle.std.specs.Str.{bytes_eq}
use Rattle.lmtp_text.proofs.BoxPlaces.{any-has}
use Rattle.lmtpd_setup.proofs.names.add_name.Goals as goal

pub returns-clause-is_new : goal.returns-clause-is_new
returns-clause-is_new c =
    let keys = c.args.seen.now.keys in
    c.in_ok-insert.ensures.added
    ∙ ap (λ (v : List ℕ). not (list_any (λ y. bytes_eq v y.items) keys)) (c.in_ok-to_vec.ensures.items_if_clones_equal (λ x y e. e))
    ∙ ap not (any-has keys c.args.name.now)

use Rattle.std.proofs.Common.{◌≡◌, ◌++◌, ◌∷◌, [], true, false, ℕ, List, Option, Some, None, refl, ap, sym, ◌∙◌}
use Rattle.std.specs.Prelude.{is_some}
use Rattle.std.specs.Map.{lookup}
use Rattle.std.specs.Str.{bytes_eq}
use Rattle.lmtp_text.specs.Sites.{place_at, keyed}
use Rattle.lmtp_text.proofs.FirstPlaces.{added, if_there, keys_listed, listed-more, place-listed}
use Rattle.lmtp_text.proofs.first_addresses.FirstAddresses.add.Goals as goal

none_of : (o : Option ℕ) → is_some o ≡ false → o ≡ None
none_of None e = refl
none_of (Some n) e = cc

pub returns-else-not-contains_key : goal.returns-else-not-contains_key
returns-else-not-contains_key c =
    let found = place-listed c.args.domain.now c.self.inside.places.entries c.requires c.self.invariant in
    let there : is_some (place_at c.args.domain.now c.args.self.now) ≡ true =
    ap (λ (l : List (List ℕ × ℕ)). is_some (place_at c.args.domain.now l)) (sym c.self.view_is) ∙ ap is_some (sym found) ∙ sym c.contains_key.ensures ∙ c.if-not-contains_key.false in
    if_there c.args.domain.now c.args.self.now c.args.place true there

pub returns-in_ok-insert : goal.returns-in_ok-insert
returns-in_ok-insert c =
    let key = c.in_ok-to_vec.field-0 in
    let is = c.in_ok-to_vec.ensures.items_if_clones_equal (λ x y e. e) in
    let found = place-listed c.args.domain.now c.self.inside.places.entries c.requires c.self.invariant in
    let away : is_some (place_at c.args.domain.now c.args.self.now) ≡ false =
    ap (λ (l : List (List ℕ × ℕ)). is_some (place_at c.args.domain.now l)) (sym c.self.view_is) ∙ ap is_some (sym found) ∙ sym c.contains_key.ensures ∙ c.if-not-contains_key.true in
    let other : lookup (λ k. bytes_eq c.args.domain.now k.items) c.self.inside.places.entries ≡ None = none_of _ (sym c.contains_key.ensures ∙ c.if-not-contains_key.true) in
    let absent : lookup (λ k. bytes_eq key.items k.items) c.self.inside.places.entries ≡ None =
    ap (λ (l : List ℕ). lookup (λ k. bytes_eq l k.items) c.self.inside.places.entries) is ∙ other in
    added (λ x y. bytes_eq x.items y.items) c.self.inside.places.entries c.insert.new.self.entries key c.args.domain.now c.args.place is absent c.in_ok-insert.ensures.entries
    ∙ ap (λ l. l ++ (c.args.domain.now, c.args.place) ∷ []) c.self.view_is
    ∙ if_there c.args.domain.now c.args.self.now c.args.place false away

pub invariant_of-self-in_ok-insert : goal.invariant_of-self-in_ok-insert
invariant_of-self-in_ok-insert c =
    let key = c.in_ok-to_vec.field-0 in
    let is = c.in_ok-to_vec.ensures.items_if_clones_equal (λ x y e. e) in
    let other : lookup (λ k. bytes_eq c.args.domain.now k.items) c.self.inside.places.entries ≡ None = none_of _ (sym c.contains_key.ensures ∙ c.if-not-contains_key.true) in
    let absent : lookup (λ k. bytes_eq key.items k.items) c.self.inside.places.entries ≡ None =
    ap (λ (l : List ℕ). lookup (λ k. bytes_eq l k.items) c.self.inside.places.entries) is ∙ other in
    ap keys_listed (added (λ x y. bytes_eq x.items y.items) c.self.inside.places.entries c.insert.new.self.entries key c.args.domain.now c.args.place is absent c.in_ok-insert.ensures.entries)
    ∙ listed-more (keyed c.self.inside.places.entries) c.args.domain.now c.args.place c.self.invariant c.requires

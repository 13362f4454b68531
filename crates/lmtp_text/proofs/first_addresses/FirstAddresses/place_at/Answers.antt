use Rattle.std.proofs.Common.{◌≡◌, true, ℕ, List, map, ap, sym, ◌∙◌, arith}
use Rattle.std.specs.Map.{lookup}
use Rattle.std.specs.Char.{to_ascii_lowercase}
use Rattle.std.specs.Str.{bytes_eq}
use Rattle.lmtp_text.specs.Sites.{place_at}
use Rattle.lmtp_text.proofs.FirstPlaces.{place-keyed, place-too_long, keys_listed}
use Rattle.lmtp_text.proofs.first_addresses.FirstAddresses.place_at.Goals as goal

pub returns-then-domain-gt-NAME_LIMIT : goal.returns-then-domain-gt-NAME_LIMIT
returns-then-domain-gt-NAME_LIMIT c =
    let named : keys_listed c.args.self.now ≡ true = ap keys_listed (sym c.self.view_is) ∙ c.self.invariant in
    place-too_long c.args.domain.now c.args.self.now named (omega (arith, c.if-domain-gt-NAME_LIMIT.true))

pub returns : goal.returns
returns c =
    let lower = c.make_ascii_lowercase.ensures.after ∙ ap (map to_ascii_lowercase) c.copy_from_slice.ensures.after in
    c.copied.ensures ∙ c.get.ensures.value ∙ ap (λ (l : List ℕ). lookup (λ key. bytes_eq l key.items) c.self.inside.places.entries) lower
    ∙ place-keyed c.args.domain.now c.self.inside.places.entries c.self.invariant ∙ ap (place_at c.args.domain.now) c.self.view_is

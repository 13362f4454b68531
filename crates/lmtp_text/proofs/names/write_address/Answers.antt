use Rattle.std.proofs.Common.{◌≡◌, ◌≤◌, ◌+◌, ◌-◌, ◌++◌, [], ◌∷◌, ℕ, List, length, take, drop, set, ap, ◌∙◌, arith}
use Rattle.std.proofs.lemmas.List.{length-set, length-append, length-take-le, take_more_set, append_assoc}
use Rattle.std.proofs.lemmas.Slice.{take-put_mid}
use Rattle.mail_world.specs.Targets.{local_name}
use Rattle.lmtp_text.specs.Seen.{seen_target}
use Rattle.lmtp_text.proofs.names.write_address.Goals as goal

put_fits : (a : ℕ) (xs ys rest : List ℕ) → a ≤ length xs → a + length ys ≤ length (take a xs ++ (ys ++ rest))
put_fits a xs ys rest h = omega (arith, length-append (take a xs) (ys ++ rest), length-append ys rest, length-take-le a xs h)

pub returns-clause-text : goal.returns-clause-text
returns-clause-text c =
    let local = local_name (seen_target c.args.target.now) in
    let domain = c.args.domain.now in
    let size = c.in-Some.size in
    let room = c.write_local.new.room in
    let marked = length-set room size 64 in
    let part : length c.copy_from_slice.new.self ≡ length domain = ap length c.copy_from_slice.ensures.after in
    let written = c.in-Some.ensures.text in
    let below : size ≤ length room = written.0 in
    let free = c.if-domain-room.false in
    let rest = drop (size + 1 + (size + 1 + length domain - (size + 1))) (set room size 64) in
    let fits = put_fits (size + 1) (set room size 64) c.copy_from_slice.new.self rest (omega (arith, marked, below, free)) in (
      omega (arith, part, fits),
      take-put_mid (size + 1) (size + 1 + length domain - (size + 1)) (set room size 64) c.copy_from_slice.new.self (size + 1 + length domain) (omega (arith, part)) (omega (arith, marked, below, free))
          ∙ ap (λ (l : List ℕ). l ++ c.copy_from_slice.new.self) (take_more_set room size 64 (omega (arith, below, free)) ∙ ap (λ (l : List ℕ). l ++ 64 ∷ []) written.1)
          ∙ append_assoc local (64 ∷ []) c.copy_from_slice.new.self ∙ ap (λ (l : List ℕ). local ++ 64 ∷ l) c.copy_from_slice.ensures.after,
    )

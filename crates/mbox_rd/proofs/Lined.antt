-- Lines that were copied to the end of what waits.
use Rattle.std.proofs.Common.{◌≡◌, ℕ, ◌+◌, ◌≤◌, arith, Bool, true, false, List, ◌++◌, length, take, ap, ◌∙◌, append_assoc}
use Rattle.std.specs.Prelude.{if◌then◌else◌}
use Rattle.std.proofs.lemmas.List.{length-append, take_all, take-take, take-append-le}
use Rattle.std.proofs.Math.Seq.{take-append-add}

-- the first bytes of a list that was filled up
pub kept_by : (b : Bool) (h n : ℕ) (old more all : List ℕ) → all ≡ (if b then take n old ++ more else old)
    → h ≡ length old → h ≤ n → take h all ≡ old
kept_by true h n old more all e size le =
    let whole : take n old ≡ old = take_all n old (omega (arith, size, le)) in
    ap (take h) e ∙ ap (λ (l : List ℕ). take h (l ++ more)) whole
    ∙ take-append-le h old more (omega (arith, size)) ∙ take_all h old (omega (arith, size))
kept_by false h n old more all e size le = ap (take h) e ∙ take_all h old (omega (arith, size))

-- as many bytes of the room as count, after what waited
pub lines_added : (h m most : ℕ) (old all room post back : List ℕ) → h ≡ length old → take h all ≡ old
    → m ≤ length room → h + m ≤ most
    → take (h + m) (take most ((take h all ++ (room ++ post)) ++ back)) ≡ old ++ take m room
lines_added h m most old all room post back size kept few within =
    let parts = length-append room post in
    take-take (h + m) most _ within
    ∙ ap (λ (l : List ℕ). take (h + m) ((l ++ (room ++ post)) ++ back)) kept
    ∙ ap (take (h + m)) (append_assoc old (room ++ post) back)
    ∙ ap (λ (k : ℕ). take (k + m) (old ++ ((room ++ post) ++ back))) size
    ∙ take-append-add old ((room ++ post) ++ back) m
    ∙ ap (λ (l : List ℕ). old ++ l) (
    take-append-le m (room ++ post) back (omega (arith, few, parts)) ∙ take-append-le m room post few)

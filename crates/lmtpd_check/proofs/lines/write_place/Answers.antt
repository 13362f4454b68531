use Rattle.std.proofs.Common.{◌≡◌, ℕ, List, [], ◌∷◌, ◌++◌, OnErr, OnOk, codes, decimal, subst, ◌∙◌}
use Rattle.std.specs.Io.KnownBytes.{Appends}
use Rattle.mail_world.specs.Text.{lf}
use Rattle.lmtpd_output.specs.Output.{IsCutOff}
use Rattle.lmtpd_check.specs.Checked.{place_line}
use Rattle.lmtpd_check.proofs.lines.write_place.Goals as goal

-- the pieces, one after another
abbrev joined : List ℕ → List ℕ → List ℕ → List ℕ → List ℕ → List ℕ
joined n t p l s = n ++ (t ++ (p ++ (codes " in letter " ++ (l ++ (codes " at " ++ (s ++ (lf ∷ [])))))))

-- what holds of the pieces holds of the line
of_line : (P : List ℕ → Type 0) → (name said : List ℕ) → (place letter start : ℕ) → (n p l s : List ℕ)
    → n ≡ name → p ≡ decimal place → l ≡ decimal letter → s ≡ decimal start
    → P (joined n said p l s) → P (place_line name said place letter start)
of_line P name said place letter start n p l s is_name is_place is_letter is_start holds =
    subst (λ (x : List ℕ). P (joined name said (decimal place) (decimal letter) x)) is_start (
    subst (λ (x : List ℕ). P (joined name said (decimal place) x s)) is_letter (
    subst (λ (x : List ℕ). P (joined name said x l s)) is_place (
    subst (λ (x : List ℕ). P (joined x said p l s)) is_name holds)))

pub returns-clause-ok : goal.returns-clause-ok
returns-clause-ok g c =
    of_line (λ line. OnOk c.write_each.result (Appends (g.W.Write.contents c.args.writer.now) (g.W.Write.contents c.write_each.new.writer) line))
    c.args.name.now c.args.said.now c.args.place c.args.letter c.args.start _ _ _ _
    c.as_bytes.ensures.value (c.as_bytes-2.ensures.value ∙ c.format.ensures.text)
    (c.as_bytes-3.ensures.value ∙ c.format-2.ensures.text) (c.as_bytes-4.ensures.value ∙ c.format-3.ensures.text)
    c.write_each.ensures.ok

pub returns-clause-err : goal.returns-clause-err
returns-clause-err g c =
    of_line (λ line. OnErr c.write_each.result (IsCutOff (g.W.Write.contents c.args.writer.now) (g.W.Write.contents c.write_each.new.writer) line))
    c.args.name.now c.args.said.now c.args.place c.args.letter c.args.start _ _ _ _
    c.as_bytes.ensures.value (c.as_bytes-2.ensures.value ∙ c.format.ensures.text)
    (c.as_bytes-3.ensures.value ∙ c.format-2.ensures.text) (c.as_bytes-4.ensures.value ∙ c.format-3.ensures.text)
    c.write_each.ensures.err

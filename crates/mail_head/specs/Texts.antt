-- What a text says.
use Rattle.std.specs.Prelude.{ℕ, List, take}
use Rattle.mail_head.specs.declared.text.Text.{Text}

abbrev pub text_of : {N : ℕ} → Text N → List ℕ
text_of t = take t.size t.bytes

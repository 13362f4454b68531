-- What the readers of paths give: texts without where they lie in memory.
use Rattle.std.specs.Prelude.{ℕ, List}
use Rattle.std.specs.Borrow.{Bor}
use Rattle.mail_world.specs.Paths as m
use Rattle.lmtp_text.specs.declared.path.Found.{Found}
use Rattle.lmtp_text.specs.declared.path.Path.{Path}
use Rattle.lmtp_text.specs.Seen.{seen_target}

abbrev pub seen_found : {A B : Type 0} → (A → B) → Found A → m.Found B
seen_found seen found = record { value = seen found.value; rest = found.rest.now }

abbrev pub seen_text : Found (Bor (List ℕ)) → m.Found (List ℕ)
seen_text found = seen_found (λ text. text.now) found

abbrev pub seen_path : Path → m.Path
seen_path path = record { mailbox = path.mailbox.now; target = seen_target path.target }

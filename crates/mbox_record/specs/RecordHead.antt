-- The head of a record, and the record that begins with it.
use Rattle.std.specs.Prelude.{◌≡◌, Bool, List, ℕ, ◌++◌}
use Rattle.mail_world.specs.Records.{Calendar}
use Rattle.mail_world.specs.Site.{Site}
use Rattle.mbox_record.specs.Envelope.{Envelope, head_text}
use Rattle.mbox_record.specs.Lengths.{text_after_head}

-- what stands before the text of the message, and whether the marks of the message's head are renamed in that
pub record RecordHead : Type 0 where
  pub text : List ℕ
  pub renames_marks : Bool

-- that of a copy under the envelope, at the site
abbrev pub head_of : Calendar → Site → Envelope → RecordHead
head_of calendar site envelope = record {
  text = head_text calendar site envelope;
  renames_marks = site.renames_marks;
}

-- the record of the message that begins with it
abbrev pub record_after : RecordHead → List ℕ → List ℕ
record_after head message = head.text ++ text_after_head head.renames_marks message

-- one more text stands at its end
pub record HasAdded (old new : RecordHead) (text : List ℕ) : Type 0 where
  pub is : new ≡ record old { text = old.text ++ text }

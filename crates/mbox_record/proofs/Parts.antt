-- The head of a record in parts, and the record in its head, the message and the empty line.
use Rattle.std.proofs.Common.{◌≡◌, ℕ, List, [], ◌∷◌, ◌++◌, refl, sym, ap, ap₂, ◌∙◌, append_assoc, append-nil}
use Rattle.std.specs.Prelude.{codes, decimal}
use Rattle.mail_world.specs.declared.Txn.{Txn}
use Rattle.mail_world.specs.Text.{lf, tab, with_lf}
use Rattle.mail_world.specs.Stamps.{Civil, date_time}
use Rattle.mail_world.specs.Records.{Calendar, record_of, protocol, quoted_text, stored_text}
use Rattle.mail_writing.specs.Calendar.{civil_at}
use Rattle.mbox_record.specs.Envelope.{Envelope, record_text, from_line, trace_lines, head_text}
use Rattle.mbox_record.specs.Parts.{origin, id_text, date_line}
use Rattle.mail_world.specs.Site.{Site}

-- a record is what `begin`, the pieces and `end` write
pub record_split : (calendar : Calendar) (site : Site) (e : Envelope) (message : List ℕ)
    → record_text calendar site e message ≡ head_text calendar site e ++ quoted_text (stored_text site message) ++ lf ∷ []
unfolding record_of
record_split calendar site e message = refl

pub head_split : (site : Site) (sender : List ℕ) (civil : Civil) (e : Envelope) → sender ≡ e.sender → civil ≡ civil_at e.moment
    → head_text civil_at site e ≡ from_line site sender civil ++ trace_lines site civil e
head_split site sender civil e p q = rw (p, q) refl

lines_split : (a b c d e f g sender client host name lane dash number date : List ℕ)
    → with_lf ((a ++ sender ++ b) ∷ (c ++ client) ∷ (tab ∷ (d ++ host ++ e ++ name ++ f ++ (lane ++ dash ++ number) ++ g)) ∷ (tab ∷ date) ∷ [])
    ≡ (a ++ (sender ++ (b ++ (lf ∷ (c ++ (client ++ (lf ∷ tab ∷ (d ++ host))))))))
    ++ ((e ++ (name ++ (f ++ (lane ++ (dash ++ (number ++ (g ++ lf ∷ []))))))) ++ (tab ∷ (date ++ lf ∷ [])))
lines_split a b c d e f g sender client host name lane dash number date = simp (append_assoc, append-nil)

pub trace_split : (site : Site) (host name : List ℕ) (txn : Txn) (civil : Civil) (e : Envelope)
    → host ≡ site.host → name ≡ protocol e.utf8 → txn ≡ e.txn
    → trace_lines site civil e ≡ origin host e ++ (id_text name txn ++ date_line civil)
trace_split site host name txn civil e p q r =
    lines_split (codes "Return-Path: <") (codes ">") (codes "Received: from ") (codes "by ") (codes " with ") (codes " id ") (codes ";")
    e.sender e.client site.host (protocol e.utf8) (decimal e.txn.lane) (codes "-") (decimal e.txn.number) (date_time civil)
    ∙ ap (λ h. origin h e ++ (id_text (protocol e.utf8) e.txn ++ date_line civil)) (sym p)
    ∙ ap₂ (λ n t. origin host e ++ (id_text n t ++ date_line civil)) (sym q) (sym r)

pub origin_pieces : (host sender client : List ℕ) (e : Envelope) → sender ≡ e.sender → client ≡ e.client
    → origin host e ≡ codes "Return-Path: <" ++ (sender ++ (codes ">\nReceived: from " ++ (client ++ (codes "\n\tby " ++ (host ++ [])))))
origin_pieces host sender client e p q = rw (p, q, append-nil host) refl

pub id_pieces : (name lane number : List ℕ) (txn : Txn) → lane ≡ decimal txn.lane → number ≡ decimal txn.number
    → id_text name txn ≡ codes " with " ++ (name ++ (codes " id " ++ (lane ++ (codes "-" ++ (number ++ (codes ";\n" ++ []))))))
id_pieces name lane number txn p q = rw (p, q) refl

-- The trace lines of a record in the parts in which they are written.
use Rattle.std.specs.Prelude.{ℕ, List, [], ◌∷◌, ◌++◌, codes, decimal}
use Rattle.mail_world.specs.declared.Txn.{Txn}
use Rattle.mail_world.specs.Text.{lf, tab}
use Rattle.mail_world.specs.Stamps.{Civil, date_time}
use Rattle.mbox_record.specs.Envelope.{Envelope}

-- where the message comes from, and the host that it came to
abbrev pub origin : List ℕ → Envelope → List ℕ
origin host envelope =
    codes "Return-Path: <"
    ++ (envelope.sender ++ (codes ">\nReceived: from " ++ (envelope.client ++ (codes "\n\tby " ++ host))))

-- by which protocol, in which transaction
abbrev pub id_text : List ℕ → Txn → List ℕ
id_text name txn =
    codes " with "
    ++ (name ++ (codes " id " ++ (decimal txn.lane ++ (codes "-" ++ (decimal txn.number ++ codes ";\n")))))

abbrev pub date_line : Civil → List ℕ
date_line civil = tab ∷ date_time civil ++ lf ∷ []

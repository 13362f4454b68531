-- What became of the data among the parts of a conversation, and which of its lines were busy.
use Rattle.std.specs.Prelude.{Bool, false, List, [], ◌∷◌, flat_map}
use Rattle.mail_world.specs.Conversation.{Disposition, Part, CommandLine, MailData}

abbrev pub disposition_of : Part → List Disposition
disposition_of (CommandLine text busy) = []
disposition_of (MailData text d) = d ∷ []

abbrev pub dispositions_of : List Part → List Disposition
dispositions_of ps = flat_map disposition_of ps

-- whether a line was busy, before those after it: nothing is listed behind the last busy one
abbrev pub busy_then : Bool → List Bool → List Bool
busy_then false [] = []
busy_then b bs = b ∷ bs

abbrev pub busy_before : List Part → List Bool → List Bool
busy_before [] bs = bs
busy_before (CommandLine text busy ∷ ps) bs = busy_then busy (busy_before ps bs)
busy_before (MailData text d ∷ ps) bs = busy_before ps bs

abbrev pub busy_of : List Part → List Bool
busy_of ps = busy_before ps []

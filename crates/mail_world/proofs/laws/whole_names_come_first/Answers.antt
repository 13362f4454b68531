use Rattle.mail_world.proofs.WholeNames.{by_whole_name, whole_name_first}
use Rattle.mail_world.proofs.laws.whole_names_come_first.Goals as goal

pub returns : goal.returns
returns c = record {
  without = by_whole_name;
  first = whole_name_first;
}

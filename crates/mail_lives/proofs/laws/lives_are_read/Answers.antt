use Rattle.mail_lives.proofs.Lived.{lives_read, lives_do}
use Rattle.mail_lives.proofs.laws.lives_are_read.Goals as goal

pub returns : goal.returns
returns c = record {
  read = lives_read;
  stored = λ calendar lives old new h. (lives_do calendar lives old new h).stores;
  torn = λ calendar lives old new h. (lives_do calendar lives old new h).torn;
}

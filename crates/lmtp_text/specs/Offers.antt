-- How the extensions of two sites compare.
use Rattle.std.specs.Prelude.{◌≡◌, ◌≤◌, true}
use Rattle.mail_world.specs.declared.Extensions.{Extensions}

-- what is offered there is no less than here
pub record NoLess (here there : Extensions) : Type 0 where
  pub utf8 : here.utf8 ≡ true → there.utf8 ≡ true
  pub limit : here.message_limit ≤ there.message_limit

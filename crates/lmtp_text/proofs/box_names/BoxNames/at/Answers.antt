use Rattle.std.proofs.Common.{◌≡◌, [], List, ℕ, ap, sym, ◌∙◌, true}
use Rattle.std.specs.Prelude.{slice_get, unwrap_or}
use Rattle.std.specs.List.{list_all}
use Rattle.std.specs.Option.{option_copied}
use Rattle.mail_world.specs.Site.{is_listed_name}
use Rattle.lmtp_text.proofs.FirstPlaces.{named_in, at_some, at_none}
use Rattle.lmtp_text.proofs.box_names.BoxNames.at.Goals as goal

pub returns-in-Some-clause-value : goal.returns-in-Some-clause-value
returns-in-Some-clause-value c =
    c.deref.ensures.value
    ∙ at_some c.self.inside.set.keys c.args.place c.in-Some.name.now (sym c.get_index.ensures.key ∙ ap option_copied c.in-Some.is)
    ∙ ap (λ (l : List (List ℕ)). unwrap_or (slice_get l c.args.place) []) c.self.view_is

pub returns-in-Some-clause-named : goal.returns-in-Some-clause-named
returns-in-Some-clause-named c = λ within.
    let listed : list_all is_listed_name c.args.self.now ≡ true = ap (list_all is_listed_name) (sym c.self.view_is) ∙ c.self.invariant in
    ap is_listed_name (returns-in-Some-clause-value c) ∙ named_in c.args.self.now c.args.place within listed

pub returns-in-None-clause-value : goal.returns-in-None-clause-value
returns-in-None-clause-value c =
    at_none c.self.inside.set.keys c.args.place (sym c.get_index.ensures.key ∙ ap option_copied c.in-None.is)
    ∙ ap (λ (l : List (List ℕ)). unwrap_or (slice_get l c.args.place) []) c.self.view_is

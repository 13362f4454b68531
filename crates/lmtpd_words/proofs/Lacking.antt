-- A call lacks something where its subcommand's rows do.
use Rattle.std.proofs.Common.{◌≡◌, ◌∙◌, sym, ap, refl, subst, List, Option, Some, None, true, false, codes}
use Rattle.std.specs.Prelude.{option_map}
use Rattle.std.specs.Str.{bytes_eq}
use Rattle.std.specs.Box.{box_value}
use Rattle.clap.specs.declared.parser.matches.ArgMatches.{ArgMatches}
use Rattle.clap.specs.declared.parser.matches.ArgMatches.TheViews.{out-ArgMatches, out-SubCommand}
use Rattle.clap.specs.Words.{Row, Text, found_of, rows_of, subcommand_name_of, subcommand_rows_of}
use Rattle.lmtpd_words.specs.Words.{IsLacking, LacksRehearse, LacksServe}

-- of a call one name is known, and its rows
abbrev name_in : Option (Text × List Row) → Option Text
name_in call = option_map (λ p. p.0) call

abbrev rows_in : Option (Text × List Row) → Option (List Row)
rows_in call = option_map (λ p. p.1) call

-- the name that the matches of a call have
map_twice : {A B C : Type 0} (f : A → B) (g : B → C) (o : Option A) → option_map (λ a. g (f a)) o ≡ option_map g (option_map f o)
map_twice f g None = refl
map_twice f g (Some a) = refl

pub named_so : (m : ArgMatches) → subcommand_name_of m ≡ name_in (subcommand_rows_of m)
named_so m =
    map_twice (λ b. ((out-SubCommand (box_value b)).name.now, rows_of (found_of (out-SubCommand (box_value b)).matches))) (λ p. p.0)
    (out-ArgMatches m).subcommand

same_rows : (call : Option (Text × List Row)) (name : Text) (rows others : List Row) → rows_in call ≡ Some rows → call ≡ Some (name, others) → rows ≡ others
same_rows call name rows others e f = let same : ◌≡◌ {A = Option (List Row)} (Some rows) (Some others) = sym e ∙ ap rows_in f in cc

no_other : (call : Option (Text × List Row)) (name other : Text) (others : List Row) → name_in call ≡ Some name → call ≡ Some (other, others)
    → bytes_eq name name ≡ true → bytes_eq name other ≡ false → ⊥
no_other call name other others e f itself differs =
    let named : ◌≡◌ {A = Option Text} (Some name) (Some other) = sym e ∙ ap name_in f in
    let same : name ≡ other = cc in
    let wrong : true ≡ false = sym itself ∙ ap (λ t. bytes_eq name t) same ∙ differs in cc

pub lacks_rehearse : (call : Option (Text × List Row)) (rows : List Row) → name_in call ≡ Some (codes "rehearse") → rows_in call ≡ Some rows
    → LacksRehearse rows → IsLacking call
lacks_rehearse call rows n e h = record {
  rehearse = λ others f. subst LacksRehearse (same_rows call (codes "rehearse") rows others e f) h;
  serve = λ others f. absurd (no_other call (codes "rehearse") (codes "serve") others n f refl refl);
  check = λ others f. absurd (no_other call (codes "rehearse") (codes "check") others n f refl refl);
  copy = λ others f. absurd (no_other call (codes "rehearse") (codes "copy") others n f refl refl);
}

pub lacks_serve : (call : Option (Text × List Row)) (rows : List Row) → name_in call ≡ Some (codes "serve") → rows_in call ≡ Some rows
    → LacksServe rows → IsLacking call
lacks_serve call rows n e h = record {
  rehearse = λ others f. absurd (no_other call (codes "serve") (codes "rehearse") others n f refl refl);
  serve = λ others f. subst LacksServe (same_rows call (codes "serve") rows others e f) h;
  check = λ others f. absurd (no_other call (codes "serve") (codes "check") others n f refl refl);
  copy = λ others f. absurd (no_other call (codes "serve") (codes "copy") others n f refl refl);
}

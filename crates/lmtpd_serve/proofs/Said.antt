-- What a server said before its first client, and then after its last.
use Rattle.std.proofs.Common.{◌≡◌, ◌∙◌, ◌++◌, Bool, true, false, List, ℕ, Option, ap, append_assoc, refl, subst, sym}
use Rattle.std.specs.Io.KnownBytes.{Appends}
use Rattle.std.proofs.KnownBytes.{Appends-trans}
use Rattle.lmtpd_output.specs.Output.{IsListed}
use Rattle.lmtpd_output.proofs.Written.{Appends-keeps}
use Rattle.lmtpd_serve.specs.Served.{IsAnnounced, ListsOn}

pub said_on : (unknown was cut : Bool) (u v w : Option (List ℕ)) (text : List ℕ) (a : IsAnnounced unknown u v was) → ListsOn was text v w cut
    → IsListed (a.text ++ text) u w cut
said_on unknown true cut u v w text a on =
    let over = on.over refl in
    let first = a.listed in
    record {
      listed = first.listed;
      output = Appends-keeps u v w first.listed first.output over.1;
      lists = record {
        begins = record {
          rest = first.lists.begins.rest ++ text;
          whole = ap (λ (t : List ℕ). t ++ text) first.lists.begins.whole ∙ append_assoc first.listed first.lists.begins.rest text;
        };
        whole = λ never. absurd (never over.0);
      };
    }
said_on unknown false cut u v w text a on =
    let then = on.listed refl in
    let first = a.listed in
    let all : first.listed ≡ a.text = first.lists.whole (λ e. cc) in
    record {
      listed = a.text ++ then.listed;
      output = Appends-trans u v w a.text then.listed (subst (λ t. Appends u v t) all first.output) then.output;
      lists = record {
        begins = record {
          rest = then.lists.begins.rest;
          whole = ap (λ (t : List ℕ). a.text ++ t) then.lists.begins.whole ∙ sym (append_assoc a.text then.listed then.lists.begins.rest);
        };
        whole = λ never. ap (λ (t : List ℕ). a.text ++ t) (then.lists.whole never);
      };
    }

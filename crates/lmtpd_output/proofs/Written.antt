-- Texts that a writer takes one after another.
use Rattle.std.proofs.Common.{◌≡◌, ℕ, ◌+◌, ◌-◌, ◌<◌, List, [], ◌++◌, length, Option, Some, None, take, drop, get_or, sym, ap, ◌∙◌, refl, subst, append_assoc}
use Rattle.std.proofs.Common.{append-nil}
use Rattle.std.proofs.lemmas.List.{take-append-drop, take_rest, drop_more}
use Rattle.std.specs.List.{flat_map}
use Rattle.std.specs.Io.KnownBytes.{Appends, Keeps}
use Rattle.std.proofs.KnownBytes.{Appends-trans}
use Rattle.lmtpd_output.specs.Output.{IsCutOff}

-- a writer
pub Appends-nil : (u : Option (List ℕ)) → Appends u u []
Appends-nil None = tt
Appends-nil (Some xs) = sym (append-nil xs)

pub Appends-keeps : (u v w : Option (List ℕ)) (a : List ℕ) → Appends u v a → Keeps v w → Appends u w a
Appends-keeps None v w a x y = tt
Appends-keeps (Some xs) None w a x y = absurd x
Appends-keeps (Some xs) (Some ys) None a x y = y
Appends-keeps (Some xs) (Some ys) (Some zs) a x y = y ∙ x

pub Keeps-appends : (u v : Option (List ℕ)) → Appends u v [] → Keeps u v
Keeps-appends None v x = tt
Keeps-appends (Some xs) None x = x
Keeps-appends (Some xs) (Some ys) x = x ∙ append-nil xs

-- the writer took the text up to the rest
pub record WritesUpTo (old new : Option (List ℕ)) (text rest : List ℕ) : Type 0 where
  pub prefix : List ℕ
  pub whole : text ≡ prefix ++ rest
  pub appended : Appends old new prefix

pub writes_all : (u v : Option (List ℕ)) (text : List ℕ) → WritesUpTo u v text [] → Appends u v text
writes_all u v text x = let P : List ℕ → Type 0 = λ l. Appends u v l in subst P (sym (x.whole ∙ append-nil x.prefix)) x.appended

pub writes_next : (u v w : Option (List ℕ)) (text a b : List ℕ) → WritesUpTo u v text (a ++ b) → Appends v w a → WritesUpTo u w text b
writes_next u v w text a b x y = record {
  prefix = x.prefix ++ a;
  whole = x.whole ∙ sym (append_assoc x.prefix a b);
  appended = Appends-trans u v w x.prefix a x.appended y;
}

pub breaks_next : (u v w : Option (List ℕ)) (text a b : List ℕ) → WritesUpTo u v text (a ++ b) → IsCutOff v w a → IsCutOff u w text
breaks_next u v w text a b x y = record {
  prefix = x.prefix ++ y.prefix;
  begins = record {
    rest = y.begins.rest ++ b;
    whole = x.whole ∙ ap (λ l. x.prefix ++ (l ++ b)) y.begins.whole ∙ ap (λ l. x.prefix ++ l) (append_assoc y.prefix y.begins.rest b)
        ∙ sym (append_assoc x.prefix y.prefix (y.begins.rest ++ b));
  };
  appended = Appends-trans u v w x.prefix y.prefix x.appended y.appended;
}

pub writes_more : (u v w : Option (List ℕ)) (text rest : List ℕ) (n : ℕ) → WritesUpTo u v text rest → Appends v w (take n rest)
    → WritesUpTo u w text (take (length rest - n) (drop n rest))
writes_more u v w text rest n x y = rw (take_rest rest n)
    (writes_next u v w text (take n rest) (drop n rest) (let P : List ℕ → Type 0 = λ l. WritesUpTo u v text l in subst P (sym (take-append-drop n rest)) x) y)

-- a list of texts, one by one
texts_split : {X : Type 0} (f : X → List ℕ) (xs : List X) (k : ℕ) (d : X) → k < length xs
    → flat_map f (drop k xs) ≡ f (get_or xs k d) ++ flat_map f (drop (k + 1) xs)
texts_split f xs k d h = ap (flat_map f) (drop_more xs k d h)

pub writes_text : {X : Type 0} (f : X → List ℕ) (u v w : Option (List ℕ)) (xs : List X) (k : ℕ) (d : X) → k < length xs
    → WritesUpTo u v (flat_map f xs) (flat_map f (drop k xs)) → Appends v w (f (get_or xs k d)) → WritesUpTo u w (flat_map f xs) (flat_map f (drop (k + 1) xs))
writes_text f u v w xs k d h x y =
    writes_next u v w (flat_map f xs) (f (get_or xs k d)) _
    (let P : List ℕ → Type 0 = λ l. WritesUpTo u v (flat_map f xs) l in subst P (texts_split f xs k d h) x) y

pub breaks_text : {X : Type 0} (f : X → List ℕ) (u v w : Option (List ℕ)) (xs : List X) (k : ℕ) (d : X) → k < length xs
    → WritesUpTo u v (flat_map f xs) (flat_map f (drop k xs)) → IsCutOff v w (f (get_or xs k d)) → IsCutOff u w (flat_map f xs)
breaks_text f u v w xs k d h x y =
    breaks_next u v w (flat_map f xs) (f (get_or xs k d)) _
    (let P : List ℕ → Type 0 = λ l. WritesUpTo u v (flat_map f xs) l in subst P (texts_split f xs k d h) x) y

-- What is found of files, and the lines that say it.
use Rattle.std.specs.Prelude.{◌≡◌, ◌⊎◌, ◌≤◌, ℕ, Bool, true, false, List, [], ◌∷◌, ◌++◌, length, take, codes, decimal}
use Rattle.std.specs.Prelude.{All, Option, Some, None, Ok, Err, ⊤}
use Rattle.std.specs.Borrow.{Bor}
use Rattle.std.specs.List.{flat_map}
use Rattle.std.specs.Io.KnownBytes.{Appends}
use Rattle.mail_world.specs.Text.{lf}
use Rattle.mbox_check.specs.Form.{IsFoundOf}
use Rattle.mbox_check.specs.declared.fault.BadForm.{BadForm}
use Rattle.mbox_check.specs.declared.fault.BadForm.TheVariants.{NoFromLine, NoEmptyLine}
use Rattle.mbox_check.specs.declared.found.NulAt.{NulAt}
use Rattle.lmtpd_output.specs.Output.{IsCutOff, pair_texts}
use Rattle.lmtpd_check.specs.declared.checked.Finding.{Finding}
use Rattle.lmtpd_check.specs.declared.checked.Finding.TheVariants.{Letters, Form, Unread}

-- the line of a file, with what is said of it and a number
abbrev pub number_line : List ℕ → List ℕ → ℕ → List ℕ
number_line name said number = name ++ said ++ decimal number ++ (lf ∷ [])

-- the line of a file with what is said of it and a place, and the letter that has it, and where that letter begins
abbrev pub place_line : List ℕ → List ℕ → ℕ → ℕ → ℕ → List ℕ
place_line name said place letter start =
    name ++ (said ++ (decimal place ++ (codes " in letter " ++ (decimal letter ++ (codes " at " ++ (decimal start ++ (lf ∷ [])))))))

-- the line of a file that breaks the form, with the place
abbrev pub bad_line : List ℕ → BadForm → List ℕ
bad_line name (NoFromLine place) = number_line name (codes " no From line at ") place
bad_line name (NoEmptyLine place letter start) = place_line name (codes " no empty line at ") place letter start

-- the line of a file of that name
abbrev pub finding_line : List ℕ → Finding → List ℕ
finding_line name (Letters count nul) = number_line name (codes " letters ") count
finding_line name (Form bad nul) = bad_line name bad
finding_line name Unread = name ++ (codes " cannot read" ++ (lf ∷ []))

-- the first NUL that was read of a file
abbrev pub nul_of : Finding → Option NulAt
nul_of (Letters count nul) = nul
nul_of (Form bad nul) = nul
nul_of Unread = None

-- the line that tells of it
abbrev pub nul_line : List ℕ → Option NulAt → List ℕ
nul_line name None = []
nul_line name (Some nul) = place_line name (codes " NUL at ") nul.place nul.letter nul.start

-- what is said of a file of that name
abbrev pub finding_text : List ℕ → Finding → List ℕ
finding_text name finding = finding_line name finding ++ nul_line name (nul_of finding)

-- a count of letters, and nothing wrong
abbrev pub is_letters : Finding → Bool
is_letters (Letters count nul) = true
is_letters (Form bad nul) = false
is_letters Unread = false

-- what is said of each finding, with the name in its place
abbrev pub finding_lines : List (List ℕ) → List Finding → List ℕ
finding_lines names findings = pair_texts finding_text names findings

-- the line on standard error for a file of that name that was read without its lock
abbrev pub unlocked_line : List ℕ → List ℕ
unlocked_line name = codes "lmtpd: " ++ (name ++ (codes " read without its lock" ++ (lf ∷ [])))

abbrev pub unlocked_lines : List (Bor (List ℕ)) → List ℕ
unlocked_lines names = flat_map (λ name. unlocked_line name.now) names

-- some of the names, in their order
abbrev pub AreAmong : List (List ℕ) → List (List ℕ) → Type 0
AreAmong names [] = ⊤
AreAmong [] (x ∷ xs) = ⊥
AreAmong (name ∷ names) (x ∷ xs) = ((x ≡ name) × AreAmong names xs) ⊎ AreAmong names (x ∷ xs)

module _ {F : Type 0} (remaining : F → Option (List ℕ)) where
  -- what is found of some file, of which `remaining` is what its reads give; nothing of one that can't be read
  abbrev pub IsFindingOf : Finding → Type 0
  IsFindingOf (Letters count nul) = (file : F) × IsFoundOf (remaining file) (record { letters = Ok count; nul = nul })
  IsFindingOf (Form bad nul) = (file : F) × IsFoundOf (remaining file) (record { letters = Err bad; nul = nul })
  IsFindingOf Unread = ⊤

  -- What was found of the files of these names, and written of it from one state of a writer to the next: for each a
  -- finding and what is said of it, unless a write failed. Then of the first ones, and a prefix of that. Some of those
  -- that were looked at were read without their lock.
  pub record IsChecked (names : List (List ℕ)) (before after : Option (List ℕ)) (findings : List Finding)
      (unlocked : List (List ℕ)) (cut : Bool) : Type 0 where
    pub within : length findings ≤ length names
    pub complete : cut ≡ false → length findings ≡ length names
    pub each : All IsFindingOf findings
    pub among : AreAmong (take (length findings) names) unlocked
    pub whole : cut ≡ false → Appends before after (finding_lines names findings)
    pub broken : cut ≡ true → IsCutOff before after (finding_lines names findings)

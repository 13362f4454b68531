-- What the program's words ask for.
use Rattle.std.specs.Prelude.{◌≡◌, ◌∷◌, ◌++◌, ◌⊎◌, ◌↔◌, IsTrue, ◌<◌, ◌≤◌, ◌^◌, ◌==◌, ◌+◌, ◌-◌, ◌*◌, ◌/◌, min, max, ℕ}
use Rattle.std.specs.Prelude.{Bool, true, false, nat_le, ◌&&◌, ◌||◌, List, [], Option, Some, None, option_map, map}
use Rattle.std.specs.Prelude.{codes, length, replicate, String}
use Rattle.std.specs.Prelude.{string_bytes}
use Rattle.std.specs.declared.alloc.Global.{Global}
use Rattle.std.specs.Option.{option_map_or}
use Rattle.std.specs.List.{list_all, slice_split}
use Rattle.std.specs.Char.{is_ascii_alphanumeric}
use Rattle.std.specs.Str.Parse.{IsNumeral, digits_value, without_leading_plus}
use Rattle.clap.specs.Words.{Row, Text, all_of, first_of, one_of}
use Rattle.log.specs.Level.{parse_filter}
use Rattle.log.specs.declared.level.LevelFilter.{LevelFilter}
use Rattle.log.specs.declared.level.LevelFilter.TheVariants as filter
use Rattle.mail_world.specs.Site.{Site, IsMessageLimit, is_delimiter}
use Rattle.mail_world.specs.Text.{has_byte}
use Rattle.lmtp_text.specs.Sites.{site_of, texts}
use Rattle.lmtpd_words.specs.Boxes.{listed_boxes, listed_quotas}
use Rattle.lmtpd_words.specs.declared.words.TheConstants.{DEFAULT_BAD_COMMANDS}
use Rattle.lmtpd_words.specs.declared.words.TheConstants.{DEFAULT_BLOCKS, DEFAULT_CAPACITY, DEFAULT_LANES}
use Rattle.lmtpd_words.specs.declared.words.TheConstants.{DEFAULT_LOCK_WAIT, DEFAULT_LOG, DEFAULT_MAILBOX_MODE}
use Rattle.lmtpd_words.specs.declared.words.TheConstants.{DEFAULT_READS, DEFAULT_SESSION_TIME, DEFAULT_SOCKET_MODE}
use Rattle.lmtpd_words.specs.declared.words.TheConstants.{DEFAULT_SUFFIX, DEFAULT_TIMEOUT, MODE_DIGIT_LIMIT}
use Rattle.lmtpd_words.specs.declared.words.TheConstants.{SUFFIX_LIMIT}
use Rattle.mail_world.specs.declared.limits.TheConstants.{MODE_LIMIT, MESSAGE_LIMIT, BLOCK_SIZE, BLOCK_LIMIT}
use Rattle.lmtpd_words.specs.Quotas.{quota_for}
use Rattle.lmtpd_words.specs.declared.quotas.BoxQuota.TheVariants.{Asked}
use Rattle.lmtpd_words.specs.declared.words.SiteWords.{SiteWords}
use Rattle.lmtpd_words.specs.declared.words.RehearseWords.{RehearseWords}
use Rattle.lmtpd_words.specs.declared.words.ServeWords.{ServeWords}
use Rattle.lmtpd_words.specs.declared.words.CheckWords.{CheckWords}
use Rattle.lmtpd_words.specs.declared.words.CopyWords.{CopyWords}
use Rattle.lmtpd_words.specs.declared.words.Words.{Words}
use Rattle.lmtpd_words.specs.declared.words.Words.TheVariants.{Rehearse, Serve, Check, Copy}

-- the texts of words
abbrev pub as_texts : List (String Global) → List Text
as_texts words = map (λ word. string_bytes word) words

-- the number that a text writes in decimal
abbrev pub number : Text → ℕ
number text = digits_value 10 (without_leading_plus text)

-- a text that writes a number below 2^32
abbrev pub IsNumber : Text → Type 0
IsNumber text = IsNumeral 10 (without_leading_plus text) × (number text < 2 ^ 32)

-- a text that writes a number below 2^64
abbrev pub IsByteCount : Text → Type 0
IsByteCount text = IsNumeral 10 (without_leading_plus text) × (number text < 2 ^ 64)

-- the texts that commas join
abbrev pub listed : Text → List Text
listed text = slice_split (λ b. b == 44) text

-- the number of a text that is given, and else the usual one
abbrev pub IsNumberOr : ℕ → Option Text → ℕ → Type 0
IsNumberOr usual None n = n ≡ usual
IsNumberOr usual (Some text) n = IsNumber text → n ≡ number text

-- a text is given that writes no number below 2^32
abbrev pub IsNoNumber : Option Text → Type 0
IsNoNumber given = (text : Text) × (given ≡ Some text) × (IsNumber text → ⊥)

-- the bytes that a message may have: the number of a text that is given, and else the usual one, within bounds
abbrev pub IsMessageLimitOr : Option Text → ℕ → Type 0
IsMessageLimitOr given limit = IsNumberOr MESSAGE_LIMIT given limit × IsMessageLimit limit

-- a text is given that writes no such number
abbrev pub IsNoMessageLimit : Option Text → Type 0
IsNoMessageLimit given = (text : Text) × (given ≡ Some text) × (IsNumber text → IsMessageLimit (number text) → ⊥)

-- the delimiter that a text is, a single byte that a site may have, and none where no text is given
abbrev pub IsDelimiterIfGiven : Option Text → Option ℕ → Type 0
IsDelimiterIfGiven given delimiter =
    (given ≡ option_map (λ c. c ∷ []) delimiter) × (option_map_or is_delimiter delimiter true ≡ true)

-- a text is given that is none
abbrev pub IsNoDelimiter : Option Text → Type 0
IsNoDelimiter given = (delimiter : Option ℕ) → IsDelimiterIfGiven given delimiter → ⊥

-- the blocks for messages on their way where no number is given: those of a largest message for each lane
abbrev pub usual_blocks : ℕ → ℕ → ℕ
usual_blocks lanes limit = min BLOCK_LIMIT (max DEFAULT_BLOCKS (lanes * ((limit + (BLOCK_SIZE - 1)) / BLOCK_SIZE)))

-- the limit of bytes that a text names, and none where none is given
abbrev pub IsLimit : Option Text → Option ℕ → Type 0
IsLimit None limit = limit ≡ None
IsLimit (Some text) limit = IsByteCount text → limit ≡ Some (number text)

-- a server logs at these levels alone
abbrev pub is_log_level : LevelFilter → Bool
is_log_level filter.Off = true
is_log_level filter.Error = true
is_log_level filter.Info = true
is_log_level _ = false

-- the level that a text names, in any letter case, and else the usual one
abbrev pub IsLevel : Option Text → LevelFilter → Type 0
IsLevel None level = level ≡ DEFAULT_LOG
IsLevel (Some text) level = (parse_filter text ≡ Some level) × (is_log_level level ≡ true)

-- a text is given that names none of them
abbrev pub IsNoLevel : Option Text → Type 0
IsNoLevel given = (level : LevelFilter) → IsLevel given level → ⊥

-- the number that a text writes in octal
abbrev pub octal : Text → ℕ
octal text = digits_value 8 text

-- a text that writes permission bits: a few octal digits and nothing else, not above the most
pub record WritesMode (text : Text) : Type 0 where
  pub digits : IsNumeral 8 text
  pub short : length text ≤ MODE_DIGIT_LIMIT
  pub within : octal text ≤ MODE_LIMIT

-- the permission bits that a text writes, and else the usual ones
abbrev pub IsModeOr : ℕ → Option Text → ℕ → Type 0
IsModeOr usual None mode = mode ≡ usual
IsModeOr usual (Some text) mode = WritesMode text × (mode ≡ octal text)

-- a text is given that writes none
abbrev pub IsNoMode : Option Text → Type 0
IsNoMode given = (text : Text) × (given ≡ Some text) × (WritesMode text → ⊥)

abbrev pub is_of_suffix : ℕ → Bool
is_of_suffix b = is_ascii_alphanumeric b || has_byte (codes "._-") b

-- what the files of mailboxes may have after a name
abbrev pub is_suffix : Text → Bool
is_suffix text = nat_le (length text) SUFFIX_LIMIT && list_all is_of_suffix text

-- the suffix that a text is, and else the usual one
abbrev pub IsSuffixOr : Option Text → Text → Type 0
IsSuffixOr None suffix = suffix ≡ DEFAULT_SUFFIX.now
IsSuffixOr (Some text) suffix = (is_suffix text ≡ true) × (suffix ≡ text)

-- a text is given that is none
abbrev pub IsNoSuffix : Option Text → Type 0
IsNoSuffix given = (text : Text) × (given ≡ Some text) × (is_suffix text ≡ false)

-- the path that a text is: an empty text is none
abbrev pub NamesPath : Option Text → Text → Type 0
NamesPath given path = (given ≡ Some path) × (0 < length path)

-- no text is given, or an empty one
abbrev pub IsNoPath : Option Text → Type 0
IsNoPath given = (path : Text) → NamesPath given path → ⊥

-- a text is given, and an empty one
abbrev pub IsEmpty : Option Text → Type 0
IsEmpty given = given ≡ Some []

-- the path of a text that is given, and none where none is
abbrev pub IsPathIfGiven : Option Text → Option Text → Type 0
IsPathIfGiven given None = given ≡ None
IsPathIfGiven given (Some path) = NamesPath given path

-- a text says what becomes of a copy over the quota: it is put off where none is given or it says so, and else refused
abbrev pub over_quota_word : Bool → List ℕ
over_quota_word true = codes "reject"
over_quota_word false = codes "defer"

abbrev pub IsOverQuota : Option Text → Bool → Type 0
IsOverQuota given rejects = (given ≡ Some (over_quota_word rejects)) ⊎ ((given ≡ None) × (rejects ≡ false))

abbrev pub IsNoOverQuota : Option Text → Type 0
IsNoOverQuota given = (rejects : Bool) → IsOverQuota given rejects → ⊥

-- a flag is given: clap has a text for that, and another one for a flag that isn't
abbrev pub IsFlag : Option Text → Bool → Type 0
IsFlag given is_set = IsTrue is_set ↔ (given ≡ Some (codes "true"))

-- the site that the values of the arguments name
pub record IsSiteRead (rows : List Row) (words : SiteWords) : Type 0 where
  pub host : first_of (codes "host") rows ≡ Some words.host.now
  pub domains : texts words.domains.items ≡ option_map_or listed (first_of (codes "domains") rows) []
  pub boxes_file : first_of (codes "boxes") rows ≡ option_map (λ path. path.now) words.boxes_file
  pub listed : words.listed.now ≡ []
  pub boxes : texts words.boxes.items ≡ option_map_or (λ names. names) (all_of (codes "box") rows) []
  pub quotas : words.quotas.items ≡ replicate (length words.boxes.items) Asked
  pub message_limit : IsMessageLimitOr (one_of (codes "message-limit") rows) words.message_limit
  pub recipient_delimiter : IsDelimiterIfGiven (first_of (codes "recipient-delimiter") rows) words.recipient_delimiter
  pub rename_marks : IsFlag (one_of (codes "rename-marks") rows) words.rename_marks
  pub refuse_malformed : IsFlag (one_of (codes "refuse-malformed") rows) words.refuse_malformed
  pub smtputf8 : IsFlag (one_of (codes "smtputf8") rows) words.smtputf8
  pub over_quota : IsOverQuota (first_of (codes "over-quota") rows) words.reject_over_quota
  -- a rehearsal has no such argument, and so the usual one
  pub mailbox_suffix : IsSuffixOr (first_of (codes "mailbox-suffix") rows) words.mailbox_suffix.now

-- what the values of a rehearsal's arguments ask for
pub record IsRehearseRead (rows : List Row) (words : RehearseWords) : Type 0 where
  pub site : IsSiteRead rows words.site
  pub time : option_map number (one_of (codes "time") rows) ≡ Some words.time
  pub blocks : IsNumberOr (usual_blocks 1 words.site.message_limit) (one_of (codes "blocks") rows) words.blocks
  pub quota : IsLimit (one_of (codes "quota") rows) words.quota

-- what the values of a server's arguments ask for
pub record IsServeRead (rows : List Row) (words : ServeWords) : Type 0 where
  pub site : IsSiteRead rows words.site
  pub listen : first_of (codes "listen") rows ≡ Some words.listen.now
  pub dir : NamesPath (first_of (codes "dir") rows) words.dir.now
  pub lanes : IsNumberOr DEFAULT_LANES (one_of (codes "lanes") rows) words.lanes
  pub blocks : IsNumberOr (usual_blocks words.lanes words.site.message_limit)
      (one_of (codes "blocks") rows) words.blocks
  pub capacity : IsNumberOr DEFAULT_CAPACITY (one_of (codes "capacity") rows) words.capacity
  pub reads : IsNumberOr DEFAULT_READS (one_of (codes "reads") rows) words.reads
  pub timeout : IsNumberOr DEFAULT_TIMEOUT (one_of (codes "timeout") rows) words.timeout
  pub session_time : IsNumberOr DEFAULT_SESSION_TIME (one_of (codes "session-time") rows) words.session_time
  pub bad_commands : IsNumberOr DEFAULT_BAD_COMMANDS (one_of (codes "bad-commands") rows) words.bad_commands
  pub log : IsLevel (first_of (codes "log") rows) words.log
  pub log_addresses : IsFlag (one_of (codes "log-addresses") rows) words.log_addresses
  pub quota : IsLimit (one_of (codes "quota") rows) words.quota
  pub lock_wait : IsNumberOr DEFAULT_LOCK_WAIT (one_of (codes "lock-wait") rows) words.lock_wait
  pub mailbox_mode : IsModeOr DEFAULT_MAILBOX_MODE (first_of (codes "mailbox-mode") rows) words.mailbox_mode
  pub socket_mode : IsModeOr DEFAULT_SOCKET_MODE (first_of (codes "socket-mode") rows) words.socket_mode
  -- a number exactly where a text is given
  pub connections : option_map number (one_of (codes "connections") rows) ≡ words.connections
  pub stop_file : IsPathIfGiven (first_of (codes "stop-file") rows) (option_map (λ path. path.now) words.stop_file)
  pub start_anyway : IsFlag (one_of (codes "start-anyway") rows) words.start_anyway
  pub check_words : IsFlag (one_of (codes "check-words") rows) words.check_words

-- what the values of a check's argument ask for
pub record IsCheckRead (rows : List Row) (words : CheckWords) : Type 0 where
  pub files : all_of (codes "file") rows ≡ Some (texts words.files.items)

-- what the values of a copy's arguments ask for
pub record IsCopyRead (rows : List Row) (words : CopyWords) : Type 0 where
  pub file : first_of (codes "file") rows ≡ Some words.file.now
  pub to : first_of (codes "to") rows ≡ Some words.to.now

-- an argument that must be given has no value, or no number; or one that is given writes no number, path, level or mode
abbrev pub LacksText : List ℕ → List Row → Type 0
LacksText name rows = first_of name rows ≡ None

abbrev pub LacksNumber : List ℕ → List Row → Type 0
LacksNumber name rows = (text : Text) → one_of name rows ≡ Some text → IsNumber text → ⊥

abbrev pub LacksSite : List Row → Type 0
LacksSite rows = LacksText (codes "host") rows
    ⊎ (IsNoMessageLimit (one_of (codes "message-limit") rows)
    ⊎ (IsNoDelimiter (first_of (codes "recipient-delimiter") rows)
    ⊎ (IsNoSuffix (first_of (codes "mailbox-suffix") rows) ⊎ IsNoOverQuota (first_of (codes "over-quota") rows))))

abbrev pub LacksRehearse : List Row → Type 0
LacksRehearse rows = LacksNumber (codes "time") rows ⊎ LacksSite rows

abbrev pub LacksServe : List Row → Type 0
LacksServe rows =
    LacksText (codes "listen") rows
    ⊎ (IsNoPath (first_of (codes "dir") rows) ⊎ (IsNoNumber (one_of (codes "connections") rows)
    ⊎ (IsEmpty (first_of (codes "stop-file") rows) ⊎ (IsNoLevel (first_of (codes "log") rows)
    ⊎ (IsNoMode (first_of (codes "mailbox-mode") rows)
    ⊎ (IsNoMode (first_of (codes "socket-mode") rows) ⊎ LacksSite rows))))))

abbrev pub LacksCheck : List Row → Type 0
LacksCheck rows = all_of (codes "file") rows ≡ None

abbrev pub LacksCopy : List Row → Type 0
LacksCopy rows = LacksText (codes "file") rows ⊎ LacksText (codes "to") rows

-- a call of a copy lacks something
abbrev pub LacksCopied : Option (Text × List Row) → Type 0
LacksCopied call = (rows : List Row) → call ≡ Some (codes "copy", rows) → LacksCopy rows

-- what a subcommand's call asks for: its name and the rows that its arguments get
abbrev pub IsAsked : Option (Text × List Row) → Words → Type 0
IsAsked call (Rehearse words) = (rows : List Row) × (call ≡ Some (codes "rehearse", rows)) × IsRehearseRead rows words
IsAsked call (Serve words) = (rows : List Row) × (call ≡ Some (codes "serve", rows)) × IsServeRead rows words
IsAsked call (Check words) = (rows : List Row) × (call ≡ Some (codes "check", rows)) × IsCheckRead rows words
IsAsked call (Copy words) = (rows : List Row) × (call ≡ Some (codes "copy", rows)) × IsCopyRead rows words

-- a call of any of them lacks something
pub record IsLacking (call : Option (Text × List Row)) : Type 0 where
  pub rehearse : (rows : List Row) → call ≡ Some (codes "rehearse", rows) → LacksRehearse rows
  pub serve : (rows : List Row) → call ≡ Some (codes "serve", rows) → LacksServe rows
  pub check : (rows : List Row) → call ≡ Some (codes "check", rows) → LacksCheck rows
  pub copy : LacksCopied call

-- these words with the mailboxes that a text lists, after their own, and with that text
pub record HasListed (text : Text) (words filled : SiteWords) : Type 0 where
  pub host : filled.host ≡ words.host
  pub domains : filled.domains ≡ words.domains
  pub boxes_file : filled.boxes_file ≡ words.boxes_file
  pub listed : filled.listed.now ≡ text
  pub boxes : texts filled.boxes.items ≡ texts words.boxes.items ++ listed_boxes text
  pub quotas : filled.quotas.items ≡ words.quotas.items ++ listed_quotas text
  pub message_limit : filled.message_limit ≡ words.message_limit
  pub recipient_delimiter : filled.recipient_delimiter ≡ words.recipient_delimiter
  pub rename_marks : filled.rename_marks ≡ words.rename_marks
  pub refuse_malformed : filled.refuse_malformed ≡ words.refuse_malformed
  pub smtputf8 : filled.smtputf8 ≡ words.smtputf8
  pub reject_over_quota : filled.reject_over_quota ≡ words.reject_over_quota
  pub mailbox_suffix : filled.mailbox_suffix ≡ words.mailbox_suffix

-- the quota that counts for each of their mailboxes, in their order, where that one is asked of all
abbrev pub quotas_for : Option ℕ → SiteWords → List (Option ℕ)
quotas_for asked words = map (quota_for asked) words.quotas.items

-- the site that they name
abbrev pub named_site : SiteWords → Site
named_site words =
    record (site_of words.host.now words.domains.items words.boxes.items) {
      message_limit = words.message_limit;
      recipient_delimiter = words.recipient_delimiter;
      utf8 = words.smtputf8;
      renames_marks = words.rename_marks;
      refuses_malformed = words.refuse_malformed;
      rejects_over_quota = words.reject_over_quota;
    }

-- the same as a server has it, which tells a recipient that its mailbox is busy
abbrev pub serving_site : SiteWords → Site
serving_site words = record (named_site words) { tells_busy = true }

-- What a run of the program comes to: the words say what is asked for, and then come what was done, the lines on
-- standard error and the status.
use Rattle.std.specs.Prelude.{◌≡◌, ◌⊎◌, ◌*◌, ◌-◌, ◌^◌, min, ℕ, Bool, true, false, List, [], ◌++◌, length, map, Option}
use Rattle.std.specs.Prelude.{Some, None, IfSome, Contains}
use Rattle.std.specs.Arc.{arc_value}
use Rattle.std.specs.List.{AllByRecursion}
use Rattle.std.specs.declared.sync.Arc.{Arc}
use Rattle.std.specs.declared.alloc.Global.{Global}
use Rattle.std.specs.Option.{option_map_or}
use Rattle.clap.specs.Words.{Text, kind_of, subcommand_of, takes}
use Rattle.clap.specs.declared.error.Error.{Error}
use Rattle.clap.specs.declared.error.kind.ErrorKind.TheVariants.{OutOfMemory}
use Rattle.lmtp_text.specs.Sites.{texts}
use Rattle.lmtp_threads.specs.Works.{SpoolsView}
use Rattle.lmtp_talk.specs.Entries.{Entry}
use Rattle.lmtp_house.specs.House.{IsSize}
use Rattle.lmtp_house.specs.declared.house.sizes.Sizes.{Sizes}
use Rattle.lmtp_tcp.specs.declared.tcp_peer.Bounds.{Bounds}
use Rattle.lmtpd_words.specs.CommandLine.{program_app}
use Rattle.slow_boxes.specs.declared.boxes.SlowBoxes.{SlowBoxes}
use Rattle.lmtpd_words.specs.Words.{IsAsked, IsLacking, named_site, quotas_for, serving_site}
use Rattle.lmtpd_words.specs.declared.words.RehearseWords.{RehearseWords}
use Rattle.lmtpd_words.specs.declared.words.ServeWords.{ServeWords}
use Rattle.lmtpd_words.specs.declared.words.CheckWords.{CheckWords}
use Rattle.lmtpd_words.specs.declared.words.CopyWords.{CopyWords}
use Rattle.lmtpd_words.specs.declared.words.SiteWords.{SiteWords}
use Rattle.lmtpd_words.specs.declared.words.Words.TheVariants.{Rehearse, Serve, Check, Copy}
use Rattle.lmtpd_listen.specs.Listening.{AsksInherited, IsRefused, Names}
use Rattle.lmtpd_listen.specs.declared.fault.ListenFault.{ListenFault}
use Rattle.lmtpd_listen.specs.declared.listen_address.ListenAddress.{ListenAddress}
use Rattle.lmtpd_listen.specs.Opened.{IsOpenedFor}
use Rattle.lmtpd_listen.specs.declared.opened.Opened.{Opened}
use Rattle.lmtpd_listen.specs.declared.server.ServerSocket.{ServerSocket}
use Rattle.lmtpd_setup.specs.Boxes.{IsUnfilled}
use Rattle.lmtpd_setup.specs.Curfew.{IsCurfewOf}
use Rattle.lmtpd_setup.specs.Mailboxes.{Held}
use Rattle.lmtpd_setup.specs.Setup.{ends_asked, mailboxes_asked, quotas_asked}
use Rattle.lmtpd_setup.specs.declared.ends.ServerCurfew.{ServerCurfew}
use Rattle.lmtpd_setup.specs.Names.{IsRefusedBy}
use Rattle.lmtpd_setup.specs.Faults.{listen_refusal, rehearsed_fault, site_fault, stop_for, stop_status}
use Rattle.lmtpd_setup.specs.Lines.{line_after, status_after, stop_line}
use Rattle.lmtpd_setup.specs.declared.fault.Fault.{Fault}
use Rattle.lmtpd_setup.specs.declared.fault.Fault.TheVariants as fault
use Rattle.lmtpd_setup.specs.declared.stop.Stop.{Stop}
use Rattle.lmtpd_setup.specs.declared.stop.Stop.TheVariants as stop
use Rattle.lmtpd_log.specs.LaneLogs.{LogLines}
use Rattle.lmtpd_check.specs.Checked.{IsChecked, unlocked_lines}
use Rattle.lmtpd_check.specs.declared.checked.Checked.{Checked as CheckedFiles}
use Rattle.lmtpd_rehearse.specs.Rehearsal.{IsBlockCount, IsRehearsed, Streams}
use Rattle.lmtpd_rehearse.specs.declared.ending.Ending.{Ending}
use Rattle.lmtpd_serve.specs.Served.{IsServerRun, Serving, trouble_lines}
use Rattle.lmtpd_serve.specs.declared.conversations.Conversations.{Conversations}
use Rattle.lmtpd_serve.specs.declared.served.Served.{Served as ServedRun}
use Rattle.lmtpd.specs.Lacking.{check_fault, check_status, rehearsal_fault, server_fault}
use Rattle.lmtpd.specs.Copied.{copy_line, copy_status}
use Rattle.lmtpd.specs.declared.copy.Copied.{Copied as CopiedFile}
use Rattle.lmtpd.specs.declared.serve.filled.ServeDone.{ServeDone}
use Rattle.lmtpd.specs.declared.serve.filled.ServeDone.TheVariants as done
use Rattle.lmtpd.specs.declared.program.Done.{Done}
use Rattle.lmtpd.specs.declared.program.Done.TheVariants.{Rehearsed, Served, WordsChecked, Checked, Copied, Stopped}

-- why a server of a size didn't run, where memory wasn't lacking
abbrev pub IsNotRun : Type 0 → Fault → Type 0
IsNotRun IsSize fault.Size = ¬ IsSize
IsNotRun IsSize fault.NoThread = IsSize
IsNotRun IsSize fault.ChannelGone = IsSize
IsNotRun IsSize _ = ⊥

-- A rehearsal that its words asked for was held: at the site that they name, at their moment, with as many blocks, and
-- each mailbox under its own quota, or else under the one that they say.
pub record IsRehearsedAsAsked (words : RehearseWords) (old new : Streams) (ending : Ending) : Type 0 where
  pub sound : rehearsed_fault words.site ≡ None
  pub blocks : IsBlockCount words.blocks
  pub rehearsed : IsRehearsed (named_site words.site) (quotas_for words.quota words.site) words.time old new ending

-- Why none was held: memory is lacking, and else the first fault of the site, and then one of the server that was to
-- run.
abbrev pub IsNotRehearsed : RehearseWords → Fault → Type 0
IsNotRehearsed words f = (f ≡ fault.Memory)
    ⊎ ((rehearsed_fault words.site ≡ Some f)
    ⊎ ((rehearsed_fault words.site ≡ None) × IsNotRun (IsBlockCount words.blocks) f))

-- Held once the file of its mailboxes was read: `Fills` says what their words are then.
abbrev pub IsRehearsedFilled : (SiteWords → SiteWords → Type 0) → RehearseWords → Streams → Streams → Ending → Type 0
IsRehearsedFilled Fills words old new ending =
    (site : SiteWords) × Fills words.site site × IsRehearsedAsAsked (record words { site = site }) old new ending

-- why it wasn't: that file, or what comes after it
abbrev pub IsNotRehearsedFilled : (SiteWords → SiteWords → Type 0) → RehearseWords → Stop → Type 0
IsNotRehearsedFilled Fills words s = IsUnfilled words.site s
    ⊎ ((site : SiteWords) × Fills words.site site
    × ((f : Fault) × (s ≡ stop.Fault f) × IsNotRehearsed (record words { site = site }) f))

-- what a server was opened on is what its words name, with the mode that they say
abbrev pub IsListenedAt : ServeWords → Opened → Type 0
IsListenedAt words opened = (listen_address : ListenAddress) × Names words.listen.now listen_address
    × IsOpenedFor listen_address words.socket_mode opened

-- an address that a server may listen at
abbrev pub IsListenAddress : List ℕ → Type 0
IsListenAddress text = (listen_address : ListenAddress) × Names text listen_address

-- the sizes that the words of a server ask for: a slot for each lane
abbrev pub sizes_asked : ServeWords → Sizes
sizes_asked words = record {
  blocks = words.blocks;
  slots = words.lanes;
  capacity = words.capacity;
}

-- how many conversations the words of a server ask for; where they name no number, more than any server holds
abbrev pub connections_asked : Option ℕ → ℕ
connections_asked named = option_map_or (λ count. count) named (2 ^ 64 - 1)

-- what a conversation may ask of its client: two waits make a second
abbrev pub bounds_asked : ServeWords → Bounds
bounds_asked words = record {
  reads = words.reads;
  waits = min (words.timeout * 2) (2 ^ 32 - 1);
  bad_commands = words.bad_commands;
}

-- the conversations that the words of a server ask for, until that curfew, and with these words for which of its
-- mailboxes are slow
abbrev pub conversations_asked : {E : Type 0} → ServeWords → Arc E Global → Arc SlowBoxes Global → Conversations E
conversations_asked words curfew slow = record {
  lanes = words.lanes;
  count = connections_asked words.connections;
  bounds = bounds_asked words;
  curfew = curfew;
  slow = slow;
}

-- what a server is run with that its words ask for, on that socket
abbrev pub serving_asked : {C : Type 0} → ServeWords → ServerSocket → Arc (ServerCurfew C) Global → Arc SlowBoxes Global
    → Serving ServerSocket (ServerCurfew C)
serving_asked words socket curfew slow = record {
  sizes = sizes_asked words;
  quotas = quotas_asked words;
  conversations = conversations_asked words curfew slow;
  listener = socket;
  addresses = words.log_addresses;
}

abbrev pub IsSizeAsked : ServeWords → Type 0
IsSizeAsked words =
    IsSize (serving_site words.site) (sizes_asked words) words.lanes (length words.site.boxes.items)
    (length words.site.boxes.items) (length words.site.boxes.items)

-- A server that its words asked for ran: where they say, at the site that they name, with their sizes, for as many
-- conversations within their bounds, until the end that they say, with addresses in its lines just where they say so,
-- and over a spool for each mailbox, which is had as they say (`held` is how one is), and whose observer was told of no
-- turn yet. `before` and `after` are what standard output held.
pub record IsServedAsAsked (C : Type 0) {G S : Type 0} (told : G → Option (List Entry)) (shows : G → LogLines)
    (view : SpoolsView S) (held : S → Held) (words : ServeWords) (before after : Option (List ℕ))
    (served : ServedRun) : Type 0 where
  pub serves : words.check_words ≡ false
  pub opened : Opened
  pub listens : IsListenedAt words opened
  pub sound : site_fault words.site ≡ None
  pub sizes : IsSizeAsked words
  pub curfew : Arc (ServerCurfew C) Global
  pub ends : IsCurfewOf (ends_asked words) (arc_value curfew)
  pub slow : Arc SlowBoxes Global
  pub spools : List S
  pub each_box : length spools ≡ length words.site.boxes.items
  pub mailboxes : map held spools ≡ mailboxes_asked words
  pub untold : AllByRecursion (λ spool. IfSome (view.told spool) (λ ends. ends ≡ [])) spools
  pub ran : IsServerRun (serving_site words.site) view told shows (serving_asked words opened.socket curfew slow)
      spools before after served

-- why none ran though its site is sound: a mailbox's file, or only their folder where it is to start anyway, what it
-- listens on, or the server; a port that none may have is seen only now where the socket was passed
abbrev pub IsNotServedAt : ServeWords → Stop → Type 0
IsNotServedAt words (stop.Words error) = ⊥
IsNotServedAt words (stop.Unread path) = ⊥
IsNotServedAt words (stop.Name f line) = ⊥
IsNotServedAt words (stop.Unopened name suffix) =
    (words.start_anyway ≡ false) × Contains words.site.boxes.items name × (suffix ≡ words.site.mailbox_suffix)
IsNotServedAt words (stop.NoFolder name suffix) =
    (words.start_anyway ≡ true) × Contains words.site.boxes.items name × (suffix ≡ words.site.mailbox_suffix)
IsNotServedAt words (stop.Fault f) = (f ≡ fault.Listen)
    ⊎ (((f ≡ fault.Port) × AsksInherited words.listen.now) ⊎ IsNotRun (IsSizeAsked words) f)

-- why its words can't be used though its site is sound: a mailbox's file, or only their folder where it is to start
-- anyway, or a size
abbrev pub IsNotToServe : ServeWords → Stop → Type 0
IsNotToServe words (stop.Words error) = ⊥
IsNotToServe words (stop.Unread path) = ⊥
IsNotToServe words (stop.Name f line) = ⊥
IsNotToServe words (stop.Unopened name suffix) =
    (words.start_anyway ≡ false) × Contains words.site.boxes.items name × (suffix ≡ words.site.mailbox_suffix)
IsNotToServe words (stop.NoFolder name suffix) =
    (words.start_anyway ≡ true) × Contains words.site.boxes.items name × (suffix ≡ words.site.mailbox_suffix)
IsNotToServe words (stop.Fault f) = (f ≡ fault.Size) × ¬ IsSizeAsked words

-- Why none ran, or why its words can't be used: memory is lacking, and else the first of the address and the site, with
-- the name that can't be used where that is to be said; and then of the files, what listens and the server itself, or,
-- where the words alone are to be checked, of the files and the sizes.
abbrev pub IsNotServed : ServeWords → Stop → Type 0
IsNotServed words s = (s ≡ stop.Fault fault.Memory)
    ⊎ (((f : ListenFault) × (s ≡ stop.Fault (listen_refusal f)) × IsRefused words.listen.now f)
    ⊎ (IsListenAddress words.listen.now
    × (((f : Fault) × (site_fault words.site ≡ Some f) × IsRefusedBy words f s)
    ⊎ ((site_fault words.site ≡ None) × (((words.check_words ≡ false) × IsNotServedAt words s)
    ⊎ ((words.check_words ≡ true) × IsNotToServe words s))))))

-- The words of a server alone were to be checked, and each of them can be used: the address, the site, with all of its
-- names, and the sizes.
pub record AreServeWords (words : ServeWords) : Type 0 where
  pub asked : words.check_words ≡ true
  pub listen_address : IsListenAddress words.listen.now
  pub sound : site_fault words.site ≡ None
  pub sizes : IsSizeAsked words

-- The same of a server, once the file of its mailboxes was read: `IsRun` says which runs its words ask for then.
abbrev pub IsServedFilled : {W : Type 0} → (SiteWords → SiteWords → Type 0) → (ServeWords → W → ServedRun → Type 0)
    → ServeWords → W → ServedRun → Type 0
IsServedFilled Fills IsRun words writer served =
    (site : SiteWords) × Fills words.site site × IsRun (record words { site = site }) writer served

-- the same of words that were checked
abbrev pub IsCheckedFilled : (SiteWords → SiteWords → Type 0) → ServeWords → Type 0
IsCheckedFilled Fills words = (site : SiteWords) × Fills words.site site × AreServeWords (record words { site = site })

-- what the words of a server came to
abbrev pub IsServeDone : {W : Type 0} → (SiteWords → SiteWords → Type 0) → (ServeWords → W → ServedRun → Type 0)
    → ServeWords → ServeDone W → Type 0
IsServeDone Fills IsRun words (done.Served it writer) = IsServedFilled Fills IsRun words writer it
IsServeDone Fills IsRun words done.WordsChecked = IsCheckedFilled Fills words

abbrev pub IsNotServedFilled : (SiteWords → SiteWords → Type 0) → ServeWords → Stop → Type 0
IsNotServedFilled Fills words s = IsUnfilled words.site s
    ⊎ ((site : SiteWords) × Fills words.site site × IsNotServed (record words { site = site }) s)

-- The files that its words name were checked: `remaining` is what contracts see of a file, `contents` of a writer, and
-- `before` what the writer held.
abbrev pub IsCheckedAsAsked : {F W : Type 0} → (F → Option (List ℕ)) → (W → Option (List ℕ)) → Option (List ℕ)
    → CheckWords → CheckedFiles W → Type 0
IsCheckedAsAsked remaining contents before words checked =
    IsChecked remaining (texts words.files.items) before (contents checked.writer) checked.findings.items
    (texts checked.unlocked.items) checked.cut

-- why the program stopped early: clap's answer to its words, why there was no rehearsal or no server, or lack of memory
-- for a check
abbrev pub IsStopped : (SiteWords → SiteWords → Type 0) → List Text → Stop → Type 0
IsStopped Fills texts s = ((error : Error) × (s ≡ stop_for error)
    × (takes program_app texts ≡ true → (kind_of error ≡ OutOfMemory) ⊎ IsLacking (subcommand_of program_app texts)))
    ⊎ (((words : RehearseWords) × IsAsked (subcommand_of program_app texts) (Rehearse words)
    × IsNotRehearsedFilled Fills words s)
    ⊎ (((words : ServeWords) × IsAsked (subcommand_of program_app texts) (Serve words)
    × IsNotServedFilled Fills words s)
    ⊎ ((words : CheckWords) × IsAsked (subcommand_of program_app texts) (Check words) × (s ≡ stop.Fault fault.Memory))))

-- what contracts see of a reader and a writer
abbrev pub streams_of : {R W : Type 0} → (R → Option (List ℕ)) → (W → Option (List ℕ)) → R → W → Streams
streams_of remaining contents reader writer = record { unread = remaining reader; written = contents writer }

-- What the program did is what its words ask for: `streams` is what contracts see of a reader and a writer, `Fills`
-- says what the words of a site are once the file of its mailboxes was read, `IsRun` which runs of a server its words
-- ask for then, `IsCheck` which checks of files, and `IsCopy` which copies.
module _ {R W : Type 0} where
  abbrev pub IsDoneAsAsked : (R → W → Streams) → (SiteWords → SiteWords → Type 0)
      → (ServeWords → W → ServedRun → Type 0)
      → (CheckWords → CheckedFiles W → Type 0) → (CopyWords → CopiedFile → Type 0) → List Text → Streams → Done R W
      → Type 0
  IsDoneAsAsked streams Fills IsRun IsCheck IsCopy texts old (Rehearsed it) =
      (words : RehearseWords) × IsAsked (subcommand_of program_app texts) (Rehearse words)
      × IsRehearsedFilled Fills words old (streams it.reader it.writer) it.ending
  IsDoneAsAsked streams Fills IsRun IsCheck IsCopy texts old (Served it writer) =
      (words : ServeWords) × IsAsked (subcommand_of program_app texts) (Serve words)
      × IsServedFilled Fills IsRun words writer it
  IsDoneAsAsked streams Fills IsRun IsCheck IsCopy texts old WordsChecked =
      (words : ServeWords) × IsAsked (subcommand_of program_app texts) (Serve words) × IsCheckedFilled Fills words
  IsDoneAsAsked streams Fills IsRun IsCheck IsCopy texts old (Checked it) =
      (words : CheckWords) × IsAsked (subcommand_of program_app texts) (Check words) × IsCheck words it
  IsDoneAsAsked streams Fills IsRun IsCheck IsCopy texts old (Copied it) =
      (words : CopyWords) × IsAsked (subcommand_of program_app texts) (Copy words) × IsCopy words it
  IsDoneAsAsked streams Fills IsRun IsCheck IsCopy texts old (Stopped s) = IsStopped Fills texts s

  -- the status of the program, and its lines on standard error: 0 only for what was done with no fault, words and files
  -- that are sound, and for help
  abbrev pub exit_status : Done R W → ℕ
  exit_status (Rehearsed it) = status_after (rehearsal_fault it.ending)
  exit_status (Served it writer) = status_after (server_fault it.ending)
  exit_status WordsChecked = 0
  exit_status (Checked it) = check_status it.findings.items it.cut
  exit_status (Copied it) = copy_status it.fault
  exit_status (Stopped s) = stop_status s

  -- A server's mailboxes that missed turns, and those over their quota, come before its fault, and so do a check's
  -- files that were read without their lock. The first argument says whether standard error is the journal, which is
  -- told the priority of what ends the program.
  abbrev pub exit_lines : Bool → Done R W → List ℕ
  exit_lines is_journal (Rehearsed it) = line_after is_journal (rehearsal_fault it.ending)
  exit_lines is_journal (Served it writer) = trouble_lines it ++ line_after is_journal (server_fault it.ending)
  exit_lines is_journal WordsChecked = []
  exit_lines is_journal (Checked it) = unlocked_lines it.unlocked.items ++ line_after is_journal (check_fault it.cut)
  exit_lines is_journal (Copied it) = copy_line is_journal it.file.now it.to.now it.fault
  exit_lines is_journal (Stopped s) = stop_line is_journal s

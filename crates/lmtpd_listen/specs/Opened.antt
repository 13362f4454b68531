-- What contracts see of what was opened, and of what wasn't.
use Rattle.std.specs.Prelude.{◌≡◌, ◌++◌, ℕ, List, Option, Some, None, bit_and, codes, option_map, string_bytes}
use Rattle.lmtp_talk.specs.declared.client.Client.{Client}
use Rattle.lmtp_talk.specs.declared.client.Client.TheVariants as who
use Rattle.lmtp_lane.specs.declared.tcp.listener.Endpoint.{Endpoint}
use Rattle.lmtp_lane.specs.declared.tcp.listener.Endpoint.TheVariants as endpoint
use Rattle.lmtpd_listen.specs.declared.client.ClientSocket.{ClientSocket}
use Rattle.lmtpd_listen.specs.declared.client.ClientSocket.TheVariants as client
use Rattle.lmtpd_listen.specs.declared.fault.ListenFault.{ListenFault}
use Rattle.lmtpd_listen.specs.declared.fault.ListenFault.TheVariants as fault
use Rattle.lmtpd_listen.specs.declared.fault.Reason.{Reason}
use Rattle.lmtpd_listen.specs.declared.opened.Opened.{Opened}
use Rattle.lmtpd_listen.specs.declared.listen_address.ListenAddress.{ListenAddress}
use Rattle.lmtpd_listen.specs.declared.listen_address.ListenAddress.TheVariants as listen_address
use Rattle.lmtpd_listen.specs.declared.server.Listening.{Listening}
use Rattle.lmtpd_listen.specs.declared.server.Listening.TheVariants as listening
use Rattle.lmtpd_listen.specs.declared.server.ServerSocket.{ServerSocket}
use Rattle.lmtpd_listen.specs.declared.unix.TheConstants.{MODE_BITS}
use Rattle.lmtpd_listen.specs.declared.socket_file.Made.{Made}
use Rattle.lmtpd_listen.specs.declared.socket_file.SocketFile.{SocketFile}

abbrev path_in : Listening → Option (List ℕ)
path_in (listening.Tcp listener) = None
path_in (listening.Unix listener path) = Some (string_bytes path)

-- where a Unix socket listens; none for TCP
abbrev pub socket_path : ServerSocket → Option (List ℕ)
socket_path socket = path_in socket.listening

abbrev path_made : Option Made → Option (List ℕ)
path_made None = None
path_made (Some made) = Some made.path.now

-- the file that is removed at the end; none where none was made
abbrev pub file_path : SocketFile → Option (List ℕ)
file_path file = path_made file.made

abbrev mode_found : Option Made → Option ℕ
mode_found None = None
mode_found (Some made) = Some made.mode

-- the permission bits that this file had when it was looked at last, before the socket listened; none where none was
-- made
abbrev pub file_mode : SocketFile → Option ℕ
file_mode file = mode_found file.made

-- where the lock of a socket at that path is
abbrev pub lock_path : List ℕ → List ℕ
lock_path path = path ++ codes ".lock"

-- where the lock of this file is; none where none was made
abbrev pub file_lock : SocketFile → Option (List ℕ)
file_lock file = option_map string_bytes file.lock

-- the permission bits of a number
abbrev pub permissions : ℕ → ℕ
permissions mode = bit_and mode MODE_BITS

-- whom a socket accepts: over TCP one with an address, over a Unix socket one without
abbrev pub IsClient : Option (List ℕ) → ClientSocket → Client → Type 0
IsClient None (client.Tcp stream) (who.Ip address) = Unit {0}
IsClient (Some path) (client.Unix stream) who.Unix = Unit {0}
IsClient _ _ _ = ⊥

-- where it says that it listens
abbrev pub IsEndpoint : Option (List ℕ) → Endpoint → Type 0
IsEndpoint path (endpoint.Ip address) = path ≡ None
IsEndpoint path (endpoint.Unix name) = path ≡ Some name.now

-- a Unix socket that listens at that path, whose file there had just that mode and is removed at the end, by its lock
pub record IsMadeAt (path : List ℕ) (bits : ℕ) (opened : Opened) : Type 0 where
  pub listens : socket_path opened.socket ≡ Some path
  pub removed : file_path opened.file ≡ Some path
  pub mode : file_mode opened.file ≡ Some bits
  pub lock : file_lock opened.file ≡ Some (lock_path path)

-- What was opened is of the kind that was asked for: a Unix socket that was made is at its path, with the permission
-- bits of that mode; any other is left where it is.
abbrev pub IsOpenedFor : ListenAddress → ℕ → Opened → Type 0
IsOpenedFor (listen_address.Tcp address) mode opened =
    (socket_path opened.socket ≡ None) × (file_path opened.file ≡ None)
IsOpenedFor (listen_address.Unix path) mode opened = IsMadeAt path.now (permissions mode) opened
IsOpenedFor listen_address.Inherited mode opened = file_path opened.file ≡ None

-- nothing could be opened at an address, and the log says why
abbrev pub IsListenFault : ListenFault → Type 0
IsListenFault f = (reason : Reason) × (f ≡ fault.Listen reason)

-- why nothing was opened: only a socket that the program was started with may have the port of SMTP
abbrev pub IsUnopened : ListenAddress → ListenFault → Type 0
IsUnopened p fault.Memory = Unit {0}
IsUnopened p (fault.Listen reason) = Unit {0}
IsUnopened p fault.Port = p ≡ listen_address.Inherited
IsUnopened p fault.Address = ⊥

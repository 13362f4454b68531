-- Which address a text names, and why it is refused.
use Rattle.std.specs.Prelude.{◌≡◌, ◌≢◌, ◌<◌, ◌⊎◌, ◌++◌, ℕ, List, codes, length, Contains}
use Rattle.std.specs.Net.Socket.{socket_port}
use Rattle.std.specs.Net.Grammar.{IsSocketText}
use Rattle.std.specs.declared.net.SocketAddr.{SocketAddr}
use Rattle.lmtpd_listen.specs.declared.fault.ListenFault.{ListenFault}
use Rattle.lmtpd_listen.specs.declared.fault.ListenFault.TheVariants as fault
use Rattle.lmtpd_listen.specs.declared.listen_address.ListenAddress.{ListenAddress}
use Rattle.lmtpd_listen.specs.declared.listen_address.ListenAddress.TheVariants as listen_address
use Rattle.lmtpd_listen.specs.declared.listen_address.TheConstants.{PATH_LIMIT, SMTP_PORT}

-- the socket that the program was started with is asked for
abbrev pub AsksInherited : List ℕ → Type 0
AsksInherited text = text ≡ codes "inherited"

-- a Unix socket at that path is asked for
abbrev pub AsksUnix : List ℕ → List ℕ → Type 0
AsksUnix text path = text ≡ codes "unix:" ++ path

-- any other text asks for TCP
abbrev pub AsksTcp : List ℕ → Type 0
AsksTcp text = (¬ AsksInherited text) × ((path : List ℕ) → ¬ AsksUnix text path)

-- a path that the system takes for a socket
abbrev pub IsSocketPath : List ℕ → Type 0
IsSocketPath path = (0 < length path) × (length path < PATH_LIMIT) × (¬ Contains path 0)

-- the text names this address
abbrev pub Names : List ℕ → ListenAddress → Type 0
Names text listen_address.Inherited = AsksInherited text
Names text (listen_address.Unix path) = AsksUnix text path.now × IsSocketPath path.now
Names text (listen_address.Tcp address) = AsksTcp text × IsSocketText text address × (socket_port address ≢ SMTP_PORT)

-- Why the text names no address to listen at: its path is none of a socket, it is no IP address with a port, or
-- the port is SMTP's.
abbrev pub IsRefused : List ℕ → ListenFault → Type 0
IsRefused text fault.Address =
    ((path : List ℕ) × AsksUnix text path × (¬ IsSocketPath path))
    ⊎ (AsksTcp text × ((address : SocketAddr) → ¬ IsSocketText text address))
IsRefused text fault.Port =
    AsksTcp text × ((address : SocketAddr) × IsSocketText text address × (socket_port address ≡ SMTP_PORT))
IsRefused text _ = ⊥

-- why a text is no address of TCP where a server may listen
abbrev pub IsNoAddress : List ℕ → ListenFault → Type 0
IsNoAddress text fault.Address = (address : SocketAddr) → ¬ IsSocketText text address
IsNoAddress text fault.Port = (address : SocketAddr) × IsSocketText text address × (socket_port address ≡ SMTP_PORT)
IsNoAddress text _ = ⊥

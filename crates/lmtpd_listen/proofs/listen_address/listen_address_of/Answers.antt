use Rattle.std.proofs.Common.{rules, inl}
use Rattle.lmtpd_listen.specs.Listening.{AsksUnix, IsSocketPath}
use Rattle.lmtpd_listen.proofs.listen_address.listen_address_of.Goals as goal

pub returns-else-is_socket_path : goal.returns-else-is_socket_path
returns-else-is_socket_path c =
    let asked : AsksUnix c.args.text.now c.in-Some.path.now = search rules in
    let no : ¬ (IsSocketPath c.in-Some.path.now) = search rules in
    inl (c.in-Some.path.now, asked, no)

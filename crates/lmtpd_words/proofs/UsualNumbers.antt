-- The limits of a server, and its numbers and level where the words name none, as the help tells them.
use Rattle.std.proofs.Common.{◌≡◌, refl, codes}
use Rattle.mail_world.specs.declared.limits.TheConstants.{BLOCK_SIZE, BLOCK_LIMIT, LANE_LIMIT, CAPACITY_LIMIT, LOCK_WAIT_LIMIT, MODE_LIMIT, MESSAGE_LIMIT}
use Rattle.mail_world.specs.declared.limits.TheConstants.{LEAST_MESSAGE_LIMIT, LARGEST_MESSAGE_LIMIT}
use Rattle.log.specs.declared.level.LevelFilter.TheVariants as filter
use Rattle.lmtpd_words.specs.Words.{octal, usual_blocks}
use Rattle.lmtpd_words.specs.declared.words.TheConstants.{BOXES_FILE_LIMIT, DEFAULT_BAD_COMMANDS, DEFAULT_BLOCKS, DEFAULT_CAPACITY, DEFAULT_LANES, DEFAULT_LOCK_WAIT, DEFAULT_LOG}
use Rattle.lmtpd_words.specs.declared.words.TheConstants.{DEFAULT_MAILBOX_MODE, DEFAULT_READS, DEFAULT_SESSION_TIME, DEFAULT_SOCKET_MODE, DEFAULT_SUFFIX, DEFAULT_TIMEOUT}
use Rattle.lmtpd_words.specs.declared.words.TheConstants.{SUFFIX_LIMIT}

pub lanes : DEFAULT_LANES ≡ 4
lanes = refl

pub blocks : DEFAULT_BLOCKS ≡ 1024
blocks = refl

pub capacity : DEFAULT_CAPACITY ≡ 16
capacity = refl

pub reads : DEFAULT_READS ≡ 1000000
reads = refl

pub timeout : DEFAULT_TIMEOUT ≡ 300
timeout = refl

pub session_time : DEFAULT_SESSION_TIME ≡ 3600
session_time = refl

pub bad_commands : DEFAULT_BAD_COMMANDS ≡ 200
bad_commands = refl

pub log : DEFAULT_LOG ≡ filter.Off
log = refl

pub lock_wait : DEFAULT_LOCK_WAIT ≡ 10
lock_wait = refl

pub mailbox_mode : DEFAULT_MAILBOX_MODE ≡ octal (codes "0600")
mailbox_mode = refl

pub socket_mode : DEFAULT_SOCKET_MODE ≡ octal (codes "0660")
socket_mode = refl

pub mailbox_suffix : DEFAULT_SUFFIX.now ≡ codes ".mbox"
mailbox_suffix = refl

pub most_of_a_suffix : SUFFIX_LIMIT ≡ 32
most_of_a_suffix = refl

pub most_lanes : LANE_LIMIT ≡ 64
most_lanes = refl

pub block_size : BLOCK_SIZE ≡ 4096
block_size = refl

pub most_blocks : BLOCK_LIMIT ≡ 65536
most_blocks = refl

pub most_capacity : CAPACITY_LIMIT ≡ 1024
most_capacity = refl

pub most_lock_wait : LOCK_WAIT_LIMIT ≡ 3600
most_lock_wait = refl

pub most_mode : MODE_LIMIT ≡ octal (codes "0777")
most_mode = refl

-- rwx for an owner, and r-x for the others: 7 * 64 + 5 * 8 + 5
pub a_mode : octal (codes "755") ≡ 493
a_mode = refl

pub message_limit : MESSAGE_LIMIT ≡ 1048576
message_limit = refl

pub least_message_limit : LEAST_MESSAGE_LIMIT ≡ 65536
least_message_limit = refl

pub largest_message_limit : LARGEST_MESSAGE_LIMIT ≡ 268435456
largest_message_limit = refl

-- a lane's largest message, four lanes at the usual limit, at 25 MiB, and as many blocks as there may be
pub blocks_of_a_lane : usual_blocks 1 1048576 ≡ 1024
blocks_of_a_lane = refl

pub blocks_at_25 : usual_blocks 4 26214400 ≡ 25600
blocks_at_25 = refl

pub most_of_a_boxes_file : BOXES_FILE_LIMIT ≡ 16777216
most_of_a_boxes_file = refl

pub blocks_at_most : usual_blocks 64 268435456 ≡ 65536
blocks_at_most = refl

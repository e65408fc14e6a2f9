-- The messages of a function's driver, from the words of its mailbox (Linux ixgbevf, mbx.h).
use Rattle.std.specs.Prelude.{ℕ, ◌/◌, ◌%◌, ◌^◌, ◌==◌, not, nat_le, List, Option, Some, None, slice_index, if◌then◌else◌}
use Rattle.mailbox.specs.declared.message.Api.{Api}
use Rattle.mailbox.specs.declared.message.Api.TheVariants.{V1_0, V1_1, V1_2, V1_3}
use Rattle.mailbox.specs.declared.message.Multicast.{Multicast}
use Rattle.mailbox.specs.declared.message.Multicast.TheVariants.{Off, Asked, All}
use Rattle.mailbox.specs.declared.message.Message.{Message}
use Rattle.mailbox.specs.declared.message.Message.TheVariants.{Reset, SetAddress, SetMulticast, JoinVlan, LeaveVlan, SetFrameLength, ClearSecond, ReplaceSecond, AddSecond, NegotiateApi, GetQueues, SetMulticastMode, GetLinkState, Other}
use Rattle.mailbox.specs.Address.{address_from}
use Rattle.mailbox.specs.Registers.{NACK, RESET, SET_MAC_ADDR, SET_MULTICAST, SET_VLAN, SET_LPE, SET_MACVLAN, API_NEGOTIATE, GET_QUEUES, UPDATE_XCAST_MODE, GET_LINK_STATE}

-- versions 1.0, 1.1, 1.2 and 1.3 are the numbers 0, 2, 3 and 4
abbrev pub api_of : ℕ → Option Api
api_of n = if n == 0 then Some V1_0 else (if n == 2 then Some V1_1 else (if n == 3 then Some V1_2 else (if n == 4 then Some V1_3 else None)))

-- modes 0, 1 and 2
abbrev pub multicast_of : ℕ → Option Multicast
multicast_of n = if n == 0 then Some Off else (if n == 1 then Some Asked else (if n == 2 then Some All else None))

abbrev pub mode_of : Multicast → ℕ
mode_of Off = 0
mode_of Asked = 1
mode_of All = 2

-- the number that some types have, in bits 23:16 of word 0
abbrev pub number_in : ℕ → ℕ
number_in head = head / 2 ^ 16 % 2 ^ 8

-- number 0 leaves the VLAN of bits 11:0 of word 1, and any other joins it
abbrev pub vlan_message : ℕ → ℕ → Message
vlan_message number first = if number == 0 then LeaveVlan (first % 2 ^ 12) else JoinVlan (first % 2 ^ 12)

-- number 0 gives the second address up, number 1 does so and asks for one, and every further number asks for one more
abbrev pub second_message : ℕ → ℕ → ℕ → Message
second_message number first second =
    if number == 0 then ClearSecond
    else (if number == 1 then ReplaceSecond (address_from first second) else AddSecond (address_from first second))

abbrev pub api_asked : Option Api → Message
api_asked None = Other
api_asked (Some api) = NegotiateApi api

abbrev pub api_message : ℕ → Message
api_message number = api_asked (api_of number)

-- by the type in bits 15:0 of word 0
unfoldable pub by_type : ℕ → ℕ → ℕ → ℕ → Message
by_type t number first second =
    if t == SET_MAC_ADDR then SetAddress (address_from first second)
    else (if t == SET_MULTICAST then SetMulticast (not (number == 0))
    else (if t == SET_VLAN then vlan_message number first
    else (if t == SET_LPE then SetFrameLength first
    else (if t == SET_MACVLAN then second_message number first second
    else (if t == API_NEGOTIATE then api_message first
    else (if t == GET_QUEUES then GetQueues
    else (if t == UPDATE_XCAST_MODE then SetMulticastMode (multicast_of first)
    else (if t == GET_LINK_STATE then GetLinkState
    else Other))))))))

-- RESET is known by the whole word; a word with ACK or NACK is an answer, and no message
unfoldable pub message_from : ℕ → ℕ → ℕ → Message
message_from head first second =
    if head == RESET then Reset
    else (if nat_le (2 ^ NACK) head then Other else by_type (head % 2 ^ 16) (number_in head) first second)

-- the message that stands in the words
abbrev pub message_of : List ℕ → Message
message_of words = message_from (slice_index words 0) (slice_index words 1) (slice_index words 2)

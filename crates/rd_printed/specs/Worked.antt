-- What is printed of a worked session: two devices, a request that waits, a removal under work, a drop, and a second channel.
use Rattle.std.specs.Prelude.{ℕ, List, ◌++◌, codes}

-- a channel opens, up to the list of the devices
abbrev pub opening_lines : List ℕ
opening_lines =
    codes "host 12 SERVER_ANNOUNCE tail 0\n" ++ codes "client 12 CLIENTID_CONFIRM tail 0\n" ++ codes "client 24 CLIENT_NAME tail 0\n" ++ codes "host 68 SERVER_CAPABILITY tail 0\n"
    ++ codes "host 12 CLIENTID_CONFIRM tail 0\n" ++ codes "client 68 CLIENT_CAPABILITY tail 0\n" ++ codes "host 4 USER_LOGGEDON tail 0\n"

-- the first channel: both devices, a read; a notification that the folder's close ends; a removal, and two reads that it ends; and a read that the channel's end does
abbrev pub first_lines : List ℕ
first_lines =
    codes "client 48 DEVICELIST_ANNOUNCE tail 0\n" ++ codes "host 12 DEVICE_REPLY tail 0\n" ++ codes "host 12 DEVICE_REPLY tail 0\n"
    ++ codes "host 56 DEVICE_IOREQUEST device 1 id 0 major 3 file 1 tail 0\n" ++ codes "client 21 DEVICE_IOCOMPLETION device 1 id 0 status 00000000 tail 0\n"
    ++ codes "host 56 DEVICE_IOREQUEST device 2 id 0 major 12 file 1 tail 0\n" ++ codes "host 56 DEVICE_IOREQUEST device 2 id 1 major 2 file 1 tail 0\n"
    ++ codes "client 20 DEVICE_IOCOMPLETION device 2 id 1 status 00000000 tail 0\n" ++ codes "client 20 DEVICE_IOCOMPLETION device 2 id 0 status 0000010b tail 4\n"
    ++ codes "host 56 DEVICE_IOREQUEST device 1 id 0 major 3 file 1 tail 0\n" ++ codes "host 56 DEVICE_IOREQUEST device 1 id 1 major 3 file 1 tail 0\n" ++ codes "client 12 DEVICELIST_REMOVE tail 0\n"
    ++ codes "client 20 DEVICE_IOCOMPLETION device 1 id 0 status c0000120 tail 4\n" ++ codes "client 20 DEVICE_IOCOMPLETION device 1 id 1 status c000000e tail 4\n"
    ++ codes "host 56 DEVICE_IOREQUEST device 2 id 0 major 3 file 2 tail 0\n"

-- the second: the device that is left, and a read with the completion id of the one that was dropped
abbrev pub second_lines : List ℕ
second_lines =
    codes "client 28 DEVICELIST_ANNOUNCE tail 0\n" ++ codes "host 12 DEVICE_REPLY tail 0\n" ++ codes "host 56 DEVICE_IOREQUEST device 2 id 0 major 3 file 3 tail 0\n"
    ++ codes "client 21 DEVICE_IOCOMPLETION device 2 id 0 status 00000000 tail 0\n"

abbrev pub example_lines : List ℕ
example_lines = opening_lines ++ first_lines ++ opening_lines ++ second_lines

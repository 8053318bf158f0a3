-- Document 01, "Script and printout": "Kinds and bodies".
use Rattle.std.specs.Prelude.{ℕ, ◌+◌, cond, List, Option, Some, None, Result, Ok, Err, eqb}
use Rattle.std.specs.Result.{result_unwrap_or}
use Rattle.matching.specs.declared.layout.Entry.{Entry}
use Rattle.matching.specs.declared.layout.Request.{Request}
use Rattle.state.specs.declared.layout.CounterChange.{CounterChange}
use Rattle.reader.specs.Numbers.{number_at, byte_at}
use Rattle.reader.specs.declared.contents.Line.{Line}
use Rattle.reader.specs.declared.calls.CallKind.{CallKind}
use Rattle.reader.specs.declared.calls.UnknownKind.{UnknownKind}
use Rattle.reader.specs.declared.calls.Call.{Call}

-- "1 append and 9 search ..; 2 unlink ..; 3 put and 4 get ..; 5 read event ..; 6 read counter ..; 7 set, 8 increment ..; 10 read register".
-- No other number is a kind.
abbrev pub kind_of_call : ℕ → Result CallKind UnknownKind
kind_of_call n =
    cond (eqb n 1) (Ok CallKind.Append)
    (cond (eqb n 2) (Ok CallKind.Unlink)
    (cond (eqb n 3) (Ok CallKind.Put)
    (cond (eqb n 4) (Ok CallKind.Get)
    (cond (eqb n 5) (Ok CallKind.ReadEvent)
    (cond (eqb n 6) (Ok CallKind.ReadCounter)
    (cond (eqb n 7) (Ok CallKind.SetCounter)
    (cond (eqb n 8) (Ok CallKind.Increment)
    (cond (eqb n 9) (Ok CallKind.Search)
    (cond (eqb n 10) (Ok CallKind.ReadRegister)
    (Err (record { 0 = n })))))))))))

-- the kind that any number stands for: one that no kind has stands for the last
abbrev pub call_kind : ℕ → CallKind
call_kind n = result_unwrap_or (kind_of_call n) CallKind.ReadRegister

-- "portal, list or mode, counter, zero: u8; options, start, length, min_free, uid, nid, pid: u32; match, ignore, user: u64; 56 bytes"
unfoldable pub entry_at : List ℕ → ℕ → Entry
entry_at s at =
    record {
      portal = byte_at s at;
      list = byte_at s (at + 1);
      counter = byte_at s (at + 2);
      options = number_at s (at + 4) 4;
      start = number_at s (at + 8) 4;
      length = number_at s (at + 12) 4;
      minfree = number_at s (at + 16) 4;
      uid = number_at s (at + 20) 4;
      nid = number_at s (at + 24) 4;
      pid = number_at s (at + 28) 4;
      matchbits = number_at s (at + 32) 8;
      ignorebits = number_at s (at + 40) 8;
      user = number_at s (at + 48) 8;
    }

-- "portal, ack u8; zero u16; nid, pid, uid u32; match, offset u64; length, zero u32; header data u64; 48 bytes"
unfoldable pub request_at : List ℕ → ℕ → Request
request_at s at =
    record {
      portal = byte_at s at;
      ack = byte_at s (at + 1);
      nid = number_at s (at + 4) 4;
      pid = number_at s (at + 8) 4;
      uid = number_at s (at + 12) 4;
      matchbits = number_at s (at + 16) 8;
      offset = number_at s (at + 24) 8;
      hdrdata = number_at s (at + 40) 8;
    }

-- the length in a request's body
abbrev pub length_at : List ℕ → ℕ → ℕ
length_at s at = number_at s (at + 32) 4

-- "(u8, success, failure u64)"
unfoldable pub change_at : List ℕ → ℕ → CounterChange
change_at s at = record { counter = byte_at s at; success = number_at s (at + 1) 8; failure = number_at s (at + 9) 8 }

-- the call of a line, by its kind; "48 bytes, then a put's payload"
abbrev pub call_of : CallKind → List ℕ → Line → Call
call_of CallKind.Append s l = Call.Append (entry_at s l.place)
call_of CallKind.Unlink s l = Call.Unlink (number_at s l.place 4)
call_of CallKind.Put s l = Call.Put (request_at s l.place) (l.place + 48) (l.place + l.length)
call_of CallKind.Get s l = Call.Get (request_at s l.place) (length_at s l.place)
call_of CallKind.ReadEvent s l = Call.ReadEvent
call_of CallKind.ReadCounter s l = Call.ReadCounter (byte_at s l.place)
call_of CallKind.SetCounter s l = Call.SetCounter (change_at s l.place)
call_of CallKind.Increment s l = Call.Increment (change_at s l.place)
call_of CallKind.Search s l = Call.Search (entry_at s l.place)
call_of CallKind.ReadRegister s l = Call.ReadRegister (byte_at s l.place)

-- the call of a line; none where its kind is unknown
abbrev pub call_by_kind : Result CallKind UnknownKind → List ℕ → Line → Option Call
call_by_kind (Ok kind) s l = Some (call_of kind s l)
call_by_kind (Err unknown) s l = None

abbrev pub line_call : List ℕ → Line → Option Call
line_call s l = call_by_kind (kind_of_call l.kind) s l

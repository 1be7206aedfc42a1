-- Bodies that a cut writes are published: they have room for the text that it gives them.
use Rattle.std.specs.Prelude.{Some}
use mathlib.Core.Bool.{true}
use mathlib.Core.List.{List}
use mathlib.Core.Path.{◌≡◌, refl}
use Prim.Native.Nat.{ℕ, ◌+◌, ◌≤◌, ◌<◌}
use native.Mathlib.Omega.{arith}
use lib.ListN.{length, length-append}
use borrow.Author.Tests.{leb-true}
use Rattle.wire.specs.Bytes.{IsBytes, int}
use Rattle.sedna.specs.declared.Side.TheVariants.{Client, Server}
use Rattle.sedna.specs.declared.Shape.TheVariants.{Empty, Text, Statement, Item}
use Rattle.sedna.specs.Allowed.{format_allowed, allowed}
use Rattle.sedna.specs.Encode.{string, url_bytes, body_bytes}
use Rattle.sedna.specs.Message.{Url, Body, message}
use Rattle.sedna.specs.Names as M
use Rattle.sedna.specs.Published.{Published}
use Rattle.sedna.specs.Table.{rows, search, find_of}
use Rattle.sedna_laws.specs.Pieces.{Bounded}
use Rattle.sedna_laws.proofs.Bounds.{bytes-none, bounds}
use Rattle.sedna_laws.proofs.Table.{listed_find}
use Rattle.parts_cut.specs.Cut.{statement_room, part_room, start_room}
use Rattle.parts_laws.specs.Rejoined.{UrlFits}

pub string-length : (s : List ℕ) → length (string s) ≡ 5 + length s
unfolding string int
string-length s = omega (arith, length-append (int (length s)) s)

format_small : (format : ℕ) → format_allowed format ≡ true → format < 256
unfolding format_allowed
format_small format ok = omega (arith, leb-true format 1 ok)

pub statement_published : (k format : ℕ) (t : List ℕ) → find_of k ≡ Some (Client, Statement) → format_allowed format ≡ true → length t ≤ statement_room → IsBytes t
    → Published Client (message k (Body.statement format t))
unfolding allowed body_bytes
statement_published k format t known ok room h =
    let short : length (body_bytes (Body.statement format t)) ≤ 10240 = omega (arith, string-length t, room) in
    record { listed = listed_find k Client Statement known; values = ok; short = short; bytes = (bounds (Body.statement format t) short).1 (format_small format ok, (h, tt)) }

pub part-published : (t : List ℕ) → length t ≤ part_room → IsBytes t → Published Server (message M.ItemPart (Body.text t))
unfolding allowed body_bytes find_of rows search
part-published t room h =
    let short : length (body_bytes (Body.text t)) ≤ 10240 = omega (arith, string-length t, room) in
    record { listed = listed_find M.ItemPart Server Text refl; values = refl; short = short; bytes = (bounds (Body.text t) short).1 (h, tt) }

pub end-published : Published Client (message M.LongQueryEnd Body.empty)
unfolding allowed body_bytes find_of rows search
end-published = record { listed = listed_find M.LongQueryEnd Client Empty refl; values = refl; short = omega arith; bytes = bytes-none }

start-short : (class kind : ℕ) (url : Url) (t : List ℕ) → UrlFits url → length t ≤ start_room url → length (body_bytes (Body.item class kind url t)) ≤ 10240
unfolding body_bytes url_bytes
start-short class kind Url.absent t fits room = omega (arith, string-length t, room)
start-short class kind (Url.present url) t fits room =
    let long : length (string url) ≡ 5 + length url = string-length url in
    omega (arith, string-length t, long, length-append (string url) (string t), fits, room)

pub start-published : (class kind : ℕ) (url : Url) (t : List ℕ) → allowed (Body.item class kind url t) ≡ true → UrlFits url → length t ≤ start_room url → Bounded (Body.item class kind url t)
    → Published Server (message M.ItemStart (Body.item class kind url t))
unfolding find_of rows search
start-published class kind url t ok fits room h =
    let short = start-short class kind url t fits room in
    record { listed = listed_find M.ItemStart Server Item refl; values = ok; short = short; bytes = (bounds (Body.item class kind url t) short).1 h }

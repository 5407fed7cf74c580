mod ByteLines
mod ShownLemmas

mod ProductRows
mod WrittenKeys

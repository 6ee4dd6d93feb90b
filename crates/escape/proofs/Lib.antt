-- what a writer holds while a listing is handed to it
mod Handing
-- what a reader gives while a buffer is filled
mod Reading
